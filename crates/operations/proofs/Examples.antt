-- What the definitions say of operations that are written out.
use Rattle.std.proofs.Common.{◌≡◌, pos, negsuc, true, false, [], ◌∷◌, codes, Ok, Err, refl}
use Rattle.values.specs.declared.object.Object.TheVariants as TheObject
use Rattle.values.specs.declared.refusal.OperationRefusal.TheVariants as refusal
use Rattle.values.specs.Data.{boolean, integer, text, list, dictionary, object, no_items, item, no_entries, entry}
use Rattle.operations.specs.declared.operators.operator.Binary.TheVariants.{Add, Divide, Remainder, Equal, Less, In}
use Rattle.operations.specs.declared.operators.operator.Unary.TheVariants.{Negate}
use Rattle.operations.specs.operators.Operations.{unary_answer, binary_answer, disabler}
use Rattle.operations.specs.operators.Index.{index_answer}
use Rattle.operations.specs.operators.Literal.{literal_answer}
use Rattle.operations.specs.declared.operators.literal.LiteralRefusal.TheVariants as literals

-- `negsuc n` is -(n + 1)
seven_by_minus_two : binary_answer Divide (integer (pos 7)) (integer (negsuc 1)) ≡ Ok (integer (negsuc 3))
seven_by_minus_two = refl

seven_left_by_minus_two : binary_answer Remainder (integer (pos 7)) (integer (negsuc 1)) ≡ Ok (integer (negsuc 0))
seven_left_by_minus_two = refl

minus_seven_by_two : binary_answer Divide (integer (negsuc 6)) (integer (pos 2)) ≡ Ok (integer (negsuc 3))
minus_seven_by_two = refl

minus_seven_left_by_two : binary_answer Remainder (integer (negsuc 6)) (integer (pos 2)) ≡ Ok (integer (pos 1))
minus_seven_left_by_two = refl

minus_seven_left_by_minus_two : binary_answer Remainder (integer (negsuc 6)) (integer (negsuc 1)) ≡ Ok (integer (negsuc 0))
minus_seven_left_by_minus_two = refl

by_zero : binary_answer Divide (integer (pos 7)) (integer (pos 0)) ≡ Err refusal.Range
by_zero = refl

-- the greatest and the least integer
past_the_greatest : binary_answer Add (integer (pos 170141183460469231731687303715884105727)) (integer (pos 1)) ≡ Err refusal.Range
past_the_greatest = refl

least_by_minus_one : binary_answer Divide (integer (negsuc 170141183460469231731687303715884105727)) (integer (negsuc 0)) ≡ Err refusal.Range
least_by_minus_one = refl

least_left_by_minus_one : binary_answer Remainder (integer (negsuc 170141183460469231731687303715884105727)) (integer (negsuc 0)) ≡ Ok (integer (pos 0))
least_left_by_minus_one = refl

opposite_of_the_least : unary_answer Negate (integer (negsuc 170141183460469231731687303715884105727)) ≡ Err refusal.Range
opposite_of_the_least = refl

-- paths
path_below_a_folder : binary_answer Divide (text (codes "a")) (text (codes "b")) ≡ Ok (text (codes "a/b"))
path_below_a_folder = refl

path_below_a_slash : binary_answer Divide (text (codes "a/")) (text (codes "b")) ≡ Ok (text (codes "a/b"))
path_below_a_slash = refl

absolute_path : binary_answer Divide (text (codes "a")) (text (codes "/c")) ≡ Ok (text (codes "/c"))
absolute_path = refl

path_below_nothing : binary_answer Divide (text []) (text (codes "b")) ≡ Ok (text (codes "b"))
path_below_nothing = refl

-- dictionaries: keys of the left keep their places, values of the right win
merged_dictionaries : binary_answer Add
    (dictionary (entry (codes "b") (integer (pos 1)) (entry (codes "a") (integer (pos 2)) no_entries)))
    (dictionary (entry (codes "b") (integer (pos 3)) (entry (codes "c") (integer (pos 4)) no_entries)))
    ≡ Ok (dictionary (entry (codes "b") (integer (pos 3)) (entry (codes "a") (integer (pos 2)) (entry (codes "c") (integer (pos 4)) no_entries))))
merged_dictionaries = refl

-- a dictionary is one item of a list
list_and_dictionary : binary_answer Add (list (item (integer (pos 1)) no_items)) (dictionary no_entries) ≡ Ok (list (item (integer (pos 1)) (item (dictionary no_entries) no_items)))
list_and_dictionary = refl

-- items of two types are unequal, values of two types are refused
unequal_items : binary_answer Equal (list (item (integer (pos 1)) no_items)) (list (item (text (codes "1")) no_items)) ≡ Ok (boolean false)
unequal_items = refl

two_types : binary_answer Equal (integer (pos 1)) (text (codes "1")) ≡ Err refusal.Type
two_types = refl

two_kinds_of_target : binary_answer Equal (object (TheObject.BuildTarget 1)) (object (TheObject.CustomTarget 1 2)) ≡ Ok (boolean false)
two_kinds_of_target = refl

-- texts are ordered by bytes
upper_case_first : binary_answer Less (text (codes "B")) (text (codes "a")) ≡ Ok (boolean true)
upper_case_first = refl

-- `in`
text_in_text : binary_answer In (text (codes "bc")) (text (codes "abcd")) ≡ Ok (boolean true)
text_in_text = refl

integer_in_text : binary_answer In (integer (pos 1)) (text (codes "1")) ≡ Err refusal.Type
integer_in_text = refl

integer_in_texts : binary_answer In (integer (pos 1)) (list (item (text (codes "1")) no_items)) ≡ Ok (boolean false)
integer_in_texts = refl

-- disablers
disabler_in_list : binary_answer In disabler (list (item (integer (pos 1)) no_items)) ≡ Ok disabler
disabler_in_list = refl

lists_of_disablers : binary_answer Equal (list (item disabler no_items)) (list (item disabler no_items)) ≡ Ok (boolean true)
lists_of_disablers = refl

-- indexes
past_the_end : index_answer (list (item (integer (pos 1)) no_items)) (integer (pos 9223372036854775808)) ≡ Err refusal.Absent
past_the_end = refl

last_item : index_answer (list (item (integer (pos 1)) (item (integer (pos 2)) no_items))) (integer (negsuc 0)) ≡ Ok (integer (pos 2))
last_item = refl

text_as_index : index_answer (list no_items) (text (codes "x")) ≡ Err refusal.Type
text_as_index = refl

last_output : index_answer (object (TheObject.CustomTarget 7 2)) (integer (negsuc 0)) ≡ Ok (object (TheObject.CustomOutput 7 1))
last_output = refl

-- dictionary literals
first_fault : literal_answer ((text (codes "a"), integer (pos 1)) ∷ (integer (pos 2), integer (pos 3)) ∷ (text (codes "a"), integer (pos 4)) ∷ []) ≡ Err (literals.Refused refusal.Type)
first_fault = refl

key_twice : literal_answer ((text (codes "a"), integer (pos 1)) ∷ (text (codes "a"), integer (pos 4)) ∷ (integer (pos 2), integer (pos 3)) ∷ []) ≡ Err (literals.Twice (codes "a"))
key_twice = refl
