-- Members whose keys were put in order are read back as they are.
use Rattle.std.proofs.Common.{◌≡◌, List, [], ◌∷◌, Some, Ordering, refl, sym, ap, ◌∙◌}
use Rattle.std.specs.Prelude.{fold}
use Rattle.std.specs.Ordering.{match_ordering, nat_cmp, ordering_reverse}
use Rattle.std.specs.declared.cmp.Ordering.TheVariants.{Less, Equal, Greater}
use Rattle.std.specs.Cmp.Lexicographic.{slice_cmp}
use Rattle.std.proofs.lemmas.Cmp.{nat_list_cmp_total}
use Rattle.json.specs.Tree.{MembersHaveNumbers}
use Rattle.build.specs.edge.Texts.{Text}
use Rattle.build.specs.project.World.{InstallData}
use Rattle.serde_json.specs.Data.{Data, object, string, Members, no_members, member, put}
use Rattle.serde_json.specs.Read.{of_members}
use Rattle.serde_json.specs.Written.{members_outline}
use Rattle.introspection.specs.Document.{with_installed}
use Rattle.introspection.specs.Sending.{Reads}

abbrev order : Text → Text → Ordering
order = slice_cmp nat_cmp

-- the key is above each of these
data IsAbove (k : Text) : Members → Type 0 where
  nothing_below : IsAbove k no_members
  one_below : (l : Text) {d : Data} {ms : Members} → order k l ≡ Greater → IsAbove k ms → IsAbove k (member l d ms)

-- each of these is above the key
data AreAbove (k : Text) : Members → Type 0 where
  nothing_above : AreAbove k no_members
  one_above : (l : Text) {d : Data} {ms : Members} → order l k ≡ Greater → AreAbove k ms → AreAbove k (member l d ms)

-- each key is above those before it, and each value is read from its own text
data AreOrdered : Members → Type 0 where
  none : AreOrdered no_members
  one : (k : Text) {d : Data} {ms : Members} → Reads d → AreAbove k ms → AreOrdered ms → AreOrdered (member k d ms)

-- ---- putting keeps the order

turned : (k l : Text) → order k l ≡ Less → order l k ≡ Greater
turned k l e = nat_list_cmp_total.antisymm l k ∙ ap ordering_reverse e

turned_back : (k l : Text) → order k l ≡ Greater → order l k ≡ Less
turned_back k l e = nat_list_cmp_total.antisymm l k ∙ ap ordering_reverse e

higher : (j k l : Text) → order j k ≡ Greater → order k l ≡ Greater → order j l ≡ Greater
higher j k l a b = turned l j (nat_list_cmp_total.trans l k j (turned_back k l b) (turned_back j k a))

above_lower : {k : Text} (l : Text) {ms : Members} → order k l ≡ Greater → AreAbove k ms → AreAbove l ms
above_lower l e nothing_above = nothing_above
above_lower {k = k} l e (one_above j a h) = one_above j (higher j k l a e) (above_lower l e h)

above_put : {l : Text} (k : Text) (d : Data) {ms : Members} → order k l ≡ Greater → AreAbove l ms → AreAbove l (put k d ms)
above_put k d e nothing_above = one_above k e nothing_above
above_put {l = l} k d e (one_above j {d = f} {ms = ms} a h) = go (order k j) (above_put k d e h)
  where
    go : (o : Ordering) → AreAbove l (put k d ms) → AreAbove l (match_ordering o (member k d (member j f ms)) (member j d ms) (member j f (put k d ms)))
    go Less later = one_above k e (one_above j a h)
    go Equal later = one_above j a h
    go Greater later = one_above j a later

put_ordered : (k : Text) {d : Data} {ms : Members} → Reads d → AreOrdered ms → AreOrdered (put k d ms)
put_ordered k r none = one k r nothing_above none
put_ordered k {d = d} r (one l {d = f} {ms = ms} s a h) = go (order k l) refl (put_ordered k r h)
  where
    go : (o : Ordering) → order k l ≡ o → AreOrdered (put k d ms)
        → AreOrdered (match_ordering o (member k d (member l f ms)) (member l d ms) (member l f (put k d ms)))
    go Less e later = one k r (one_above l (turned k l e) (above_lower k (turned k l e) a)) (one l s a h)
    go Equal e later = one l r a h
    go Greater e later = one l s (above_put k d e a) later

-- ---- reading them puts each behind those before it

join : Members → Members → Members
join no_members rest = rest
join (member k d ms) rest = member k d (join ms rest)

join_none : (ms : Members) → join ms no_members ≡ ms
unfolding join
join_none no_members = refl
join_none (member k d ms) = ap (member k d) (join_none ms)

join_one : (done : Members) (k : Text) (d : Data) (ms : Members) → join (join done (member k d no_members)) ms ≡ join done (member k d ms)
unfolding join
join_one no_members k d ms = refl
join_one (member l e done) k d ms = ap (member l e) (join_one done k d ms)

-- each of the others is above each that was read
data Follow (done : Members) : Members → Type 0 where
  no_more : Follow done no_members
  more : (k : Text) {d : Data} {ms : Members} → IsAbove k done → Follow done ms → Follow done (member k d ms)

put_last : (k : Text) (d : Data) {done : Members} → IsAbove k done → put k d done ≡ join done (member k d no_members)
unfolding join
put_last k d nothing_below = refl
put_last k d (one_below l {d = e} a h) = rw a (ap (member l e) (put_last k d h))

above_join : {k : Text} (j : Text) (d : Data) {done : Members} → order k j ≡ Greater → IsAbove k done → IsAbove k (join done (member j d no_members))
unfolding join
above_join j d e nothing_below = one_below j e nothing_below
above_join j d e (one_below l a h) = one_below l a (above_join j d e h)

follow_join : (j : Text) (d : Data) {done ms : Members} → AreAbove j ms → Follow done ms → Follow (join done (member j d no_members)) ms
follow_join j d nothing_above no_more = no_more
follow_join j d (one_above k a h) (more _ b f) = more k (above_join j d a b) (follow_join j d h f)

read_on : {ms : Members} → AreOrdered ms → (done : Members) → Follow done ms → of_members (members_outline ms) done ≡ Some (join done ms)
read_on none done f = ap Some (sym (join_none done))
read_on (one k {d = d} {ms = ms} r a h) done (more _ b f) =
    rw r.value
    (ap (of_members (members_outline ms)) (put_last k d b) ∙ read_on h (join done (member k d no_members)) (follow_join k d a f)
    ∙ ap Some (join_one done k d ms))

first_follow : {ms : Members} → AreOrdered ms → Follow no_members ms
first_follow none = no_more
first_follow (one k r a h) = more k nothing_below (first_follow h)

numbers_ordered : {ms : Members} → AreOrdered ms → MembersHaveNumbers (members_outline ms)
numbers_ordered none = tt
numbers_ordered (one k r a h) = (r.numbers, numbers_ordered h)

reads_ordered : {ms : Members} → AreOrdered ms → Reads (object ms)
unfolding join
reads_ordered h = record { value = rw (read_on h no_members (first_follow h)) refl; numbers = numbers_ordered h }

-- ---- the installed files

installs_ordered : {ms : Members} (is : List InstallData) → AreOrdered ms → AreOrdered (fold with_installed ms is)
installs_ordered [] h = h
installs_ordered {ms = ms} (i ∷ is) h =
    installs_ordered {ms = with_installed ms i} is (put_ordered i.source (record { value = refl; numbers = tt }) h)

pub reads_installs : (is : List InstallData) → Reads (object (fold with_installed no_members is))
reads_installs is = reads_ordered (installs_ordered is none)
