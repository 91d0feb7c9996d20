-- From the values that are sent to the list of them.
use Rattle.std.proofs.Common.{◌≡◌, ℕ, suc, List, [], ◌∷◌, map, length, Some, String, Global, string_bytes, refl, sym, ap, ◌∙◌, subst}
use Rattle.std.proofs.lemmas.Simd.{map-map}
use Rattle.json.specs.Tree.{ItemsHaveNumbers}
use Rattle.build.specs.edge.Texts.{Text}
use Rattle.serde.specs.Event as event
use Rattle.serde.specs.Event.{Log, Logs, seq_begins, seq_ends, field_key, map_begins, map_ends, WritesEach, WritesSeq}
use Rattle.serde.specs.declared.name.Case.TheVariants.{AsIs}
use Rattle.serde_json.specs.Data.{Data, string}
use Rattle.serde_json.specs.Events.{items_len, members_len, SendsItems, SendsMembers, SendsValue}
use Rattle.serde_json.specs.Read.{of_items}
use Rattle.serde_json.specs.View.{items_of}
use Rattle.serde_json.specs.Written.{items_outline}
use Rattle.introspection.specs.Document.{list, strings}
use Rattle.introspection.specs.Questions.{in_order, ordered_object}
use Rattle.introspection.specs.Sending.{Sends}

-- ---- lists

shown_len : {X : Type 0} (show : X → Data) (xs : List X) → items_len (items_of (map show xs)) ≡ length xs
shown_len show [] = refl
shown_len show (x ∷ xs) = ap suc (shown_len show xs)

-- what is written of each is what its value sends
each_sent : {X : Type 0} (w : X → Log → Log → Type 0) (show : X → Data) → ((x : X) (old new : Log) → w x old new → SendsValue (show x) old new)
    → (xs : List X) (first last new : Log) → WritesEach w xs first last → Logs last new seq_ends → SendsItems (items_of (map show xs)) first new
each_sent w show sent [] first last new h e = subst (λ l. Logs l new seq_ends) h e
each_sent w show sent (x ∷ xs) first last new h e = (h.0, sent x first h.0 h.1, each_sent w show sent xs h.0 last new h.2 e)

pub seq_sent : {X : Type 0} (w : X → Log → Log → Type 0) (show : X → Data) → ((x : X) (old new : Log) → w x old new → SendsValue (show x) old new)
    → (xs : List X) (old new : Log) → WritesSeq w xs old new → SendsValue (list (map show xs)) old new
seq_sent w show sent xs old new h =
    (h.0, subst (λ n. Logs old h.0 (seq_begins (Some n))) (sym (shown_len show xs)) h.2, each_sent w show sent xs h.0 h.1 new h.3 h.4)

each_read : {X : Type 0} (show : X → Data) (xs : List X) (old new : Log) → WritesEach (λ x. Sends (show x)) xs old new
    → (of_items (items_outline (items_of (map show xs))) ≡ Some (items_of (map show xs))) × ItemsHaveNumbers (items_outline (items_of (map show xs)))
each_read show [] old new h = (refl, tt)
each_read show (x ∷ xs) old new h =
    let rest = each_read show xs h.0 new h.2 in
    (rw (h.1.reads.value, rest.0) refl, (h.1.reads.numbers, rest.1))

pub list_sent : {X : Type 0} (show : X → Data) (xs : List X) (old new : Log) → WritesSeq (λ x. Sends (show x)) xs old new
    → Sends (list (map show xs)) old new
list_sent show xs old new h = record {
  events = seq_sent (λ x. Sends (show x)) show (λ x first last s. s.events) xs old new h;
  reads = let all = each_read show xs h.0 h.1 h.3 in record { value = rw all.0 refl; numbers = all.1 };
}

-- ---- members in order

-- a key is sent, and then its value
pub record SendsMember (m : Text × Data) (old new : Log) : Type 0 where
  pub named : Log
  pub key : Logs old named (field_key m.0 AsIs)
  pub value : SendsValue m.1 named new

pub order_len : {X : Type 0} (show : X → Text × Data) (xs : List X) → members_len (in_order (map show xs)) ≡ length xs
order_len show [] = refl
order_len show (x ∷ xs) = ap suc (order_len show xs)

pub order_sent : {X : Type 0} (show : X → Text × Data) (xs : List X) (first last new : Log) → WritesEach (λ x. SendsMember (show x)) xs first last
    → Logs last new map_ends → SendsMembers (in_order (map show xs)) first new
order_sent show [] first last new h e = subst (λ l. Logs l new map_ends) h e
order_sent show (x ∷ xs) first last new h e = (h.1.named, h.0, h.1.key, h.1.value, order_sent show xs h.0 last new h.2 e)

-- an object of members in order, of which so many are told before
pub ordered_sent : {X : Type 0} (show : X → Text × Data) (xs : List X) (n : ℕ) (old first last new : Log) → n ≡ length xs
    → Logs old first (map_begins (Some n)) → WritesEach (λ x. SendsMember (show x)) xs first last → Logs last new map_ends
    → SendsValue (ordered_object (map show xs)) old new
ordered_sent show xs n old first last new len begun each ended = (
  first,
  subst (λ m. Logs old first (map_begins (Some m))) (len ∙ sym (order_len show xs)) begun,
  order_sent show xs first last new each ended,
)

-- ---- texts

pub texts_sent : (xs : List (String Global)) (old new : Log) → WritesSeq (λ s first last. Logs first last (event.text (string_bytes s))) xs old new
    → SendsValue (strings (map string_bytes xs)) old new
texts_sent xs old new h =
    subst (λ ds. SendsValue (list ds) old new) (sym (map-map string string_bytes xs))
    (seq_sent (λ s first last. Logs first last (event.text (string_bytes s))) (λ s. string (string_bytes s)) (λ x first last e. e) xs old new h)
