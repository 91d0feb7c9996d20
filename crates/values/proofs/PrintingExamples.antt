-- Values that a person worked out, which the definitions have to give.
use Rattle.std.proofs.Common.{◌≡◌, true, false, codes, Ok, Err, refl}
use Rattle.values.specs.declared.object.Object.TheVariants as TheObject
use Rattle.values.specs.declared.refusal.OperationRefusal.TheVariants as refusal
use Rattle.values.specs.Data.{boolean, text, list, dictionary, object, no_items, item, no_entries, entry}
use Rattle.values.specs.printing.Printed.{printed_value}

list_in : printed_value (list (item (boolean false) (item (text (codes "a")) (item (boolean true) no_items)))) ≡ Ok (codes "[false, 'a', true]")
list_in = refl

dictionary_in : printed_value (dictionary (entry (codes "k") (list (item (boolean true) no_items))
    (entry (codes "") (text (codes "it's")) no_entries))) ≡ Ok (codes "{'k' : [true], '' : 'it's'}")
dictionary_in = refl

empty_list : printed_value (list no_items) ≡ Ok (codes "[]")
empty_list = refl

empty_dictionary : printed_value (dictionary no_entries) ≡ Ok (codes "{}")
empty_dictionary = refl

text_alone : printed_value (text (codes "a'b")) ≡ Ok (codes "a'b")
text_alone = refl

object_inside : printed_value (list (item (list (item (object TheObject.Meson) no_items)) no_items)) ≡ Err refusal.Arguments
object_inside = refl
