-- Marks, one after another.
use Rattle.std.proofs.Common.{◌≡◌, ◌+◌, List, [], ◌∷◌, ◌++◌, true, refl, sym, ap, subst, ◌∙◌, append_assoc, append-nil, arith}
use Rattle.code.specs.Draft.{IsFront}
use Rattle.ports.specs.Outputs.{Sends}
use Rattle.ports.proofs.Sending.{sends_nothing, sends_then}
use Rattle.world.specs.Trace.{Mark, Told, Ended, steps_of, ends_of, Seen, seen_from_parts, Adds}

pub same_front : {A : Type 0} (xs : List A) → IsFront xs xs
same_front xs = record { more = []; is = sym (append-nil xs) }

pub front_of_front : {A : Type 0} (a b c : List A) → IsFront a b → IsFront b c → IsFront a c
front_of_front a b c p q = record { more = p.more ++ q.more; is = q.is ∙ ap (λ l. l ++ q.more) p.is ∙ append_assoc a p.more q.more }

pub steps_of-append : (a b : List Mark) → steps_of (a ++ b) ≡ steps_of a ++ steps_of b
steps_of-append [] b = refl
steps_of-append (Told s ∷ a) b = ap (λ l. s ∷ l) (steps_of-append a b)
steps_of-append (Ended ∷ a) b = steps_of-append a b

pub ends_of-append : (a b : List Mark) → ends_of (a ++ b) ≡ ends_of a + ends_of b
ends_of-append [] b = omega arith
ends_of-append (Told s ∷ a) b = ends_of-append a b
ends_of-append (Ended ∷ a) b = omega (arith, ends_of-append a b)

pub none_added : (s : Seen) → Adds s [] s
none_added s = record { sent = sends_nothing s.out; ticks = omega arith; names = same_front s.names }

pub more_added : {a b c : Seen} (t u : List Mark) → Adds a t b → Adds b u c → Adds a (t ++ u) c
more_added {a = a} {b = b} {c = c} t u p q = record {
  sent = subst (λ l. Sends a.out c.out l true) (sym (steps_of-append t u)) (sends_then p.sent q.sent);
  ticks = omega (arith, p.ticks, q.ticks, ends_of-append t u);
  names = front_of_front a.names b.names c.names p.names q.names;
}

pub same_added : {a b : Seen} {t u : List Mark} → t ≡ u → Adds a t b → Adds a u b
same_added {a = a} {b = b} e p = subst (λ l. Adds a l b) e p

-- the end of one rule
pub end_added : (s : Seen) → Adds s (Ended ∷ []) (seen_from_parts s.out (s.ticks + 1) s.names)
end_added s = record { sent = sends_nothing s.out; ticks = omega arith; names = same_front s.names }

-- only the table of names has grown
pub grown_added : (old new : Seen) → new.out ≡ old.out → new.ticks ≡ old.ticks → IsFront old.names new.names → Adds old [] new
grown_added old new out ticks names = record { sent = subst (λ o. Sends old.out o [] true) (sym out) (sends_nothing old.out); ticks = omega (arith, ticks); names = names }

-- a list that is the same begins with it
pub front_as : {A : Type 0} {xs ys : List A} → ys ≡ xs → IsFront xs ys
front_as {xs = xs} e = record { more = []; is = e ∙ sym (append-nil xs) }
