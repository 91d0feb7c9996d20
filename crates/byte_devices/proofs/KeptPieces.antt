-- What outputs that keep pieces are seen as after each call.
use Rattle.std.proofs.Common.{◌≡◌, ℕ, true, false, Bool, List, [], ◌∷◌, ◌++◌, take, length, Option, Some, None, Result, Ok, Err}
use Rattle.std.proofs.Common.{refl, sym, ap, subst, ◌∙◌, append_assoc, append-nil, fold, if◌then◌else◌, ◌==◌}
use Rattle.std.specs.Prelude.{OnOk, OnErr}
use Rattle.std.specs.declared.alloc.AllocError.{AllocError}
use Rattle.std.proofs.lemmas.Grind.{flat_map-append}
use Rattle.std.proofs.lemmas.List.{map-append}
use Rattle.std.proofs.lemmas.Bool.{false≢true}
use Rattle.std.proofs.Math.Seq.{take-length}
use Rattle.ports.specs.Outputs as outputs
use Rattle.ports.specs.Outputs.{Event, Step, Opens, Puts, Closes, Logs, Faults, name_or_empty, events_of_steps, name_after, opening_steps, closing_steps, puts, logs, faults, Takes}
use Rattle.ports.proofs.Sending.{name_after-append}
use Rattle.byte_devices.specs.declared.piece.PieceKind.{PieceKind}
use Rattle.byte_devices.specs.declared.piece.PieceKind.TheVariants.{Open, Bytes, Close, Log, Fault}
use Rattle.byte_devices.specs.Kept.{kept_state}
use Rattle.byte_devices.specs.Pieces.{PieceData, piece, goes_on, with_byte, with_bytes, with_event, pieces_of, steps_of, steps_in}

-- the pieces are those of their events
abbrev pub AreJoined : List PieceData → Type 0
AreJoined ps = pieces_of (events_of_steps None (steps_in ps)) ≡ ps

told-append : (name : Option (List ℕ)) (a b : List Step) → events_of_steps name (a ++ b) ≡ events_of_steps name a ++ events_of_steps (name_after name a) b
unfolding events_of_steps name_after
told-append name [] b = refl
told-append name (Opens next ∷ a) b = ap (λ r. outputs.Open next ∷ r) (told-append (Some next) a b)
told-append name (Puts byte ∷ a) b = ap (λ r. outputs.Byte (name_or_empty name) byte ∷ r) (told-append name a b)
told-append name (Closes ∷ a) b = ap (λ r. outputs.Close (name_or_empty name) ∷ r) (told-append None a b)
told-append name (Logs byte ∷ a) b = ap (λ r. outputs.Log byte ∷ r) (told-append name a b)
told-append name (Faults byte ∷ a) b = ap (λ r. outputs.Fault byte ∷ r) (told-append name a b)

fold_seam : {A B : Type 0} (f : B → A → B) (a : B) (xs ys : List A) → fold f a (xs ++ ys) ≡ fold f (fold f a xs) ys
fold_seam f a [] ys = refl
fold_seam f a (x ∷ xs) ys = fold_seam f (f a x) xs ys

-- ---- one call

-- these steps were taken
recorded : (ps qs : List PieceData) (more : List Step) (f g : ℕ) → steps_in qs ≡ steps_in ps ++ more → Takes (kept_state ps f) (kept_state qs g) more
recorded ps qs more f g e = record {
  tells = λ _. refl;
  name = ap (name_after None) e ∙ name_after-append None (steps_in ps) more;
  events = λ _. ap (events_of_steps None) e ∙ told-append None (steps_in ps) more;
}

joined_more : (ps qs : List PieceData) (more : List Step) → steps_in qs ≡ steps_in ps ++ more → AreJoined ps
    → fold with_event ps (events_of_steps (name_after None (steps_in ps)) more) ≡ qs → AreJoined qs
joined_more ps qs more e j last =
    ap pieces_of (ap (events_of_steps None) e ∙ told-append None (steps_in ps) more)
    ∙ fold_seam with_event [] (events_of_steps None (steps_in ps)) (events_of_steps (name_after None (steps_in ps)) more)
    ∙ ap (λ x. fold with_event x (events_of_steps (name_after None (steps_in ps)) more)) j ∙ last

-- a call kept this, or nothing
pub kept_or_same : (r : Result (Unit {0}) AllocError) (ps qs kept : List PieceData) → OnOk r (qs ≡ kept) → OnErr r (qs ≡ ps) → AreJoined ps → AreJoined kept → AreJoined qs
kept_or_same (Ok x) ps qs kept k s j i = subst AreJoined (sym k) i
kept_or_same (Err e) ps qs kept k s j i = subst AreJoined (sym s) j

pub none_joined : (ps : List PieceData) → ps ≡ [] → AreJoined ps
unfolding events_of_steps steps_in
none_joined ps e = subst AreJoined (sym e) refl

pub nothing_kept : (ps qs : List PieceData) (f g : ℕ) → qs ≡ ps → Takes (kept_state ps f) (kept_state qs g) []
nothing_kept ps qs f g e = recorded ps qs [] f g (ap steps_in e ∙ sym (append-nil (steps_in ps)))

-- ---- a piece more

steps_in-push : (ps : List PieceData) (kind : PieceKind) (bytes : List ℕ) → steps_in (ps ++ piece kind bytes ∷ []) ≡ steps_in ps ++ steps_of kind bytes
unfolding steps_in
steps_in-push ps kind bytes = flat_map-append (λ p. steps_of p.kind p.bytes) ps (piece kind bytes ∷ []) ∙ ap (λ s. steps_in ps ++ s) (append-nil (steps_of kind bytes))

pub opened_kept : (ps qs : List PieceData) (bytes name : List ℕ) (f g : ℕ) → bytes ≡ name → qs ≡ ps ++ piece Open bytes ∷ [] → Takes (kept_state ps f) (kept_state qs g) (opening_steps name)
unfolding steps_of
opened_kept ps qs bytes name f g n e = recorded ps qs (opening_steps name) f g (ap steps_in e ∙ steps_in-push ps Open bytes ∙ ap (λ b. steps_in ps ++ opening_steps b) n)

pub opened_joined : (ps : List PieceData) (name : List ℕ) → AreJoined ps → AreJoined (ps ++ piece Open name ∷ [])
unfolding steps_of events_of_steps opening_steps
opened_joined ps name j = joined_more ps _ (opening_steps name) (steps_in-push ps Open name) j refl

-- an output is open
pub open_name_kept : (ps qs : List PieceData) (name : List ℕ) → qs ≡ ps ++ piece Open name ∷ [] → name_after None (steps_in qs) ≡ Some name
unfolding steps_of name_after opening_steps
open_name_kept ps qs name e = ap (λ x. name_after None (steps_in x)) e ∙ ap (name_after None) (steps_in-push ps Open name) ∙ name_after-append None (steps_in ps) (opening_steps name)

pub closed_kept : (ps qs : List PieceData) (bytes : List ℕ) (f g : ℕ) → qs ≡ ps ++ piece Close bytes ∷ [] → Takes (kept_state ps f) (kept_state qs g) closing_steps
unfolding steps_of
closed_kept ps qs bytes f g e = recorded ps qs closing_steps f g (ap steps_in e ∙ steps_in-push ps Close bytes)

pub closed_joined : (ps : List PieceData) → AreJoined ps → AreJoined (ps ++ piece Close [] ∷ [])
unfolding steps_of events_of_steps closing_steps
closed_joined ps j = joined_more ps _ closing_steps (steps_in-push ps Close []) j refl

-- ---- bytes more

joined_steps : (kind next : PieceKind) → goes_on kind next ≡ true → (a b : List ℕ) → steps_of kind (a ++ b) ≡ steps_of kind a ++ steps_of next b
unfolding steps_of puts logs faults
joined_steps Bytes Bytes h a b = map-append (λ x. Puts x) a b
joined_steps Log Log h a b = map-append (λ x. Logs x) a b
joined_steps Fault Fault h a b = map-append (λ x. Faults x) a b
joined_steps kind next h a b = absurd (false≢true h)

no_steps : (kind : PieceKind) → goes_on kind kind ≡ true → steps_of kind [] ≡ []
unfolding steps_of puts logs faults
no_steps Open h = absurd (false≢true h)
no_steps Bytes h = refl
no_steps Close h = absurd (false≢true h)
no_steps Log h = refl
no_steps Fault h = refl

steps_with_byte : (kind : PieceKind) (ps : List PieceData) (byte : ℕ) → steps_in (with_byte kind ps byte) ≡ steps_in ps ++ steps_of kind (byte ∷ [])
unfolding steps_in
steps_with_byte kind [] byte = append-nil (steps_of kind (byte ∷ []))
steps_with_byte kind (p ∷ []) byte = by (goes_on p.kind kind) refl
  where
    by : (z : Bool) → goes_on p.kind kind ≡ z
        → steps_in (if z then piece p.kind (p.bytes ++ byte ∷ []) ∷ [] else p ∷ piece kind (byte ∷ []) ∷ []) ≡ steps_in (p ∷ []) ++ steps_of kind (byte ∷ [])
    by true e =
        append-nil (steps_of p.kind (p.bytes ++ byte ∷ [])) ∙ joined_steps p.kind kind e p.bytes (byte ∷ [])
        ∙ ap (λ s. s ++ steps_of kind (byte ∷ [])) (sym (append-nil (steps_of p.kind p.bytes)))
    by false e =
        ap (λ s. steps_of p.kind p.bytes ++ s) (append-nil (steps_of kind (byte ∷ [])))
        ∙ ap (λ s. s ++ steps_of kind (byte ∷ [])) (sym (append-nil (steps_of p.kind p.bytes)))
steps_with_byte kind (p ∷ q ∷ ps) byte =
    ap (λ s. steps_of p.kind p.bytes ++ s) (steps_with_byte kind (q ∷ ps) byte)
    ∙ sym (append_assoc (steps_of p.kind p.bytes) (steps_in (q ∷ ps)) (steps_of kind (byte ∷ [])))

steps_with : (kind : PieceKind) → goes_on kind kind ≡ true → (ps : List PieceData) (bytes : List ℕ) → steps_in (with_bytes kind ps bytes) ≡ steps_in ps ++ steps_of kind bytes
steps_with kind h ps [] = sym (append-nil (steps_in ps)) ∙ ap (λ s. steps_in ps ++ s) (sym (no_steps kind h))
steps_with kind h ps (b ∷ bytes) =
    steps_with kind h (with_byte kind ps b) bytes ∙ ap (λ s. s ++ steps_of kind bytes) (steps_with_byte kind ps b)
    ∙ append_assoc (steps_in ps) (steps_of kind (b ∷ [])) (steps_of kind bytes)
    ∙ ap (λ s. steps_in ps ++ s) (sym (joined_steps kind kind h (b ∷ []) bytes))

events_puts : (ps : List PieceData) (name : Option (List ℕ)) (bytes : List ℕ) → fold with_event ps (events_of_steps name (puts bytes)) ≡ with_bytes Bytes ps bytes
unfolding events_of_steps puts
events_puts ps name [] = refl
events_puts ps name (b ∷ bytes) = events_puts (with_byte Bytes ps b) name bytes

events_logs : (ps : List PieceData) (name : Option (List ℕ)) (bytes : List ℕ) → fold with_event ps (events_of_steps name (logs bytes)) ≡ with_bytes Log ps bytes
unfolding events_of_steps logs
events_logs ps name [] = refl
events_logs ps name (b ∷ bytes) = events_logs (with_byte Log ps b) name bytes

events_faults : (ps : List PieceData) (name : Option (List ℕ)) (bytes : List ℕ) → fold with_event ps (events_of_steps name (faults bytes)) ≡ with_bytes Fault ps bytes
unfolding events_of_steps faults
events_faults ps name [] = refl
events_faults ps name (b ∷ bytes) = events_faults (with_byte Fault ps b) name bytes

pub bytes_joined : (kind : PieceKind) → goes_on kind kind ≡ true → (ps : List PieceData) (bytes : List ℕ) → AreJoined ps → AreJoined (with_bytes kind ps bytes)
unfolding steps_of
bytes_joined kind h ps bytes j = joined_more ps _ (steps_of kind bytes) (steps_with kind h ps bytes) j (by kind h)
  where
    by : (kind : PieceKind) → goes_on kind kind ≡ true → fold with_event ps (events_of_steps (name_after None (steps_in ps)) (steps_of kind bytes)) ≡ with_bytes kind ps bytes
    by Open h = absurd (false≢true h)
    by Bytes h = events_puts ps _ bytes
    by Close h = absurd (false≢true h)
    by Log h = events_logs ps _ bytes
    by Fault h = events_faults ps _ bytes

-- ---- how bytes are kept

byte_last : (kind : PieceKind) (ps : List PieceData) (p : PieceData) (byte : ℕ) → goes_on p.kind kind ≡ true
    → with_byte kind (ps ++ p ∷ []) byte ≡ ps ++ piece p.kind (p.bytes ++ byte ∷ []) ∷ []
byte_last kind [] p byte h = ap (λ z. if z then piece p.kind (p.bytes ++ byte ∷ []) ∷ [] else p ∷ piece kind (byte ∷ []) ∷ []) h
byte_last kind (q ∷ []) p byte h = ap (λ s. q ∷ s) (byte_last kind [] p byte h)
byte_last kind (q ∷ r ∷ ps) p byte h = ap (λ s. q ∷ s) (byte_last kind (r ∷ ps) p byte h)

byte_new : (kind : PieceKind) (ps : List PieceData) (p : PieceData) (byte : ℕ) → goes_on p.kind kind ≡ false
    → with_byte kind (ps ++ p ∷ []) byte ≡ (ps ++ p ∷ []) ++ piece kind (byte ∷ []) ∷ []
byte_new kind [] p byte h = ap (λ z. if z then piece p.kind (p.bytes ++ byte ∷ []) ∷ [] else p ∷ piece kind (byte ∷ []) ∷ []) h
byte_new kind (q ∷ []) p byte h = ap (λ s. q ∷ s) (byte_new kind [] p byte h)
byte_new kind (q ∷ r ∷ ps) p byte h = ap (λ s. q ∷ s) (byte_new kind (r ∷ ps) p byte h)

-- they go on with the last piece
pub bytes_last : (kind : PieceKind) (ps : List PieceData) (p : PieceData) (bytes : List ℕ) → goes_on p.kind kind ≡ true
    → with_bytes kind (ps ++ p ∷ []) bytes ≡ ps ++ piece p.kind (p.bytes ++ bytes) ∷ []
bytes_last kind ps p [] h = ap (λ b. ps ++ piece p.kind b ∷ []) (sym (append-nil p.bytes))
bytes_last kind ps p (b ∷ bytes) h =
    ap (λ x. with_bytes kind x bytes) (byte_last kind ps p b h) ∙ bytes_last kind ps (piece p.kind (p.bytes ++ b ∷ [])) bytes h
    ∙ ap (λ s. ps ++ piece p.kind s ∷ []) (append_assoc p.bytes (b ∷ []) bytes)

-- or are a piece of their own
pub bytes_first : (kind : PieceKind) (b : ℕ) (bytes : List ℕ) → goes_on kind kind ≡ true → with_bytes kind [] (b ∷ bytes) ≡ piece kind (b ∷ bytes) ∷ []
bytes_first kind b bytes h = bytes_last kind [] (piece kind (b ∷ [])) bytes h

pub bytes_new : (kind : PieceKind) (ps : List PieceData) (p : PieceData) (b : ℕ) (bytes : List ℕ) → goes_on p.kind kind ≡ false → goes_on kind kind ≡ true
    → with_bytes kind (ps ++ p ∷ []) (b ∷ bytes) ≡ (ps ++ p ∷ []) ++ piece kind (b ∷ bytes) ∷ []
bytes_new kind ps p b bytes h k =
    ap (λ x. with_bytes kind x bytes) (byte_new kind ps p b h) ∙ bytes_last kind (ps ++ p ∷ []) (piece kind (b ∷ [])) bytes k

pub own_piece : (kind : PieceKind) (ps : List PieceData) (p : PieceData) (bytes : List ℕ) → (length bytes == 0) ≡ false → goes_on p.kind kind ≡ false → goes_on kind kind ≡ true
    → with_bytes kind (ps ++ p ∷ []) bytes ≡ (ps ++ p ∷ []) ++ piece kind bytes ∷ []
own_piece kind ps p [] some h k = absurd (false≢true (sym some))
own_piece kind ps p (b ∷ bytes) some h k = bytes_new kind ps p b bytes h k

pub first_piece : (kind : PieceKind) (bytes : List ℕ) → (length bytes == 0) ≡ false → goes_on kind kind ≡ true → with_bytes kind [] bytes ≡ piece kind bytes ∷ []
first_piece kind [] some k = absurd (false≢true (sym some))
first_piece kind (b ∷ bytes) some k = bytes_first kind b bytes k

pub puts_kept : (ps qs : List PieceData) (bytes : List ℕ) (f g : ℕ) → qs ≡ with_bytes Bytes ps bytes
    → Takes (kept_state ps f) (kept_state qs g) (puts (take (length bytes) bytes))
unfolding steps_of
puts_kept ps qs bytes f g e =
    recorded ps qs (puts (take (length bytes) bytes)) f g
    (ap steps_in e ∙ steps_with Bytes refl ps bytes ∙ ap (λ b. steps_in ps ++ puts b) (sym (take-length bytes)))

pub logs_kept : (ps qs : List PieceData) (bytes : List ℕ) (f g : ℕ) → qs ≡ with_bytes Log ps bytes
    → Takes (kept_state ps f) (kept_state qs g) (logs (take (length bytes) bytes))
unfolding steps_of
logs_kept ps qs bytes f g e =
    recorded ps qs (logs (take (length bytes) bytes)) f g
    (ap steps_in e ∙ steps_with Log refl ps bytes ∙ ap (λ b. steps_in ps ++ logs b) (sym (take-length bytes)))

pub faults_kept : (ps qs : List PieceData) (bytes : List ℕ) (f g : ℕ) → qs ≡ with_bytes Fault ps bytes
    → Takes (kept_state ps f) (kept_state qs g) (faults (take (length bytes) bytes))
unfolding steps_of
faults_kept ps qs bytes f g e =
    recorded ps qs (faults (take (length bytes) bytes)) f g
    (ap steps_in e ∙ steps_with Fault refl ps bytes ∙ ap (λ b. steps_in ps ++ faults b) (sym (take-length bytes)))
