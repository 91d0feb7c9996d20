-- Values of the definitions that a person worked out.
use Rattle.std.proofs.Common.{◌≡◌, ℕ, true, false, List, [], ◌∷◌, ◌++◌, Some, None, pos, negsuc, Ok, Err, refl}
use Rattle.std.specs.Prelude.{codes}
use Rattle.std.specs.Char.{encode_utf8}
use Rattle.std.specs.Str.{chars}
use Rattle.values.specs.declared.refusal.OperationRefusal.TheVariants as refusal
use Rattle.values.specs.texts.Search.{contains}
use Rattle.values.specs.texts.Strip.{is_blank, is_among, stripped_text}
use Rattle.values.specs.texts.Part.{part}
use Rattle.values.specs.texts.Number.{integer_of}
use Rattle.values.specs.texts.Letters.{underscorified_text}
use Rattle.values.specs.texts.Pieces.{split_at, words, lines}
use Rattle.values.specs.texts.Joined.{joined_texts, replaced_text}
use Rattle.values.specs.declared.texts.placeholders.Places.TheVariants as places
use Rattle.values.specs.texts.Segments.{text, place, segments}

-- an `é`, in UTF-8
abbrev acute : List ℕ
acute = 195 ∷ 169 ∷ []

inside : contains (codes "meson") (codes "so") ≡ true
inside = refl

not_inside : contains (codes "meson") (codes "ms") ≡ false
not_inside = refl

empty_inside : contains [] [] ≡ true
empty_inside = refl

-- a vertical tab is white space, and an `é` is not
blanks_go : stripped_text is_blank ((9 ∷ 11 ∷ 32 ∷ []) ++ acute ++ codes " b\n\r") ≡ acute ++ codes " b"
unfolding chars encode_utf8
blanks_go = refl

given_go : stripped_text (is_among (codes "yx")) (codes "xyaxy") ≡ codes "a"
unfolding chars encode_utf8
given_go = refl

all_go : stripped_text (is_among (codes "a")) (codes "aaa") ≡ []
unfolding chars encode_utf8
all_go = refl

from_the_end : part (Some (negsuc 2)) (Some (negsuc 0)) (codes "abcde") ≡ codes "cd"
unfolding chars encode_utf8
from_the_end = refl

cut_into_range : part (Some (negsuc 8)) (Some (pos 99)) (codes "abcde") ≡ codes "abcde"
unfolding chars encode_utf8
cut_into_range = refl

wrong_way_round : part (Some (pos 4)) (Some (pos 2)) (codes "abcde") ≡ []
unfolding chars encode_utf8
wrong_way_round = refl

by_characters : part (Some (pos 1)) None (acute ++ codes "a" ++ acute) ≡ codes "a" ++ acute
unfolding chars encode_utf8
by_characters = refl

plus_five : integer_of (codes "+5") ≡ Ok (pos 5)
plus_five = refl

minus_seven : integer_of (codes "-07") ≡ Ok (negsuc 6)
minus_seven = refl

sign_alone : integer_of (codes "-") ≡ Err refusal.Arguments
sign_alone = refl

no_text : integer_of [] ≡ Err refusal.Arguments
no_text = refl

blank_in_front : integer_of (codes " 5") ≡ Err refusal.Arguments
blank_in_front = refl

two_signs : integer_of (codes "+-5") ≡ Err refusal.Arguments
two_signs = refl

least : integer_of (codes "-170141183460469231731687303715884105728") ≡ Ok (negsuc 170141183460469231731687303715884105727)
least = refl

past_the_most : integer_of (codes "170141183460469231731687303715884105728") ≡ Err refusal.Range
past_the_most = refl

-- a text of many digits that is no number is no number first
long_and_wrong : integer_of (codes "999999999999999999999999999999999999999999x") ≡ Err refusal.Arguments
long_and_wrong = refl

one_for_each_character : underscorified_text (codes "a_B-" ++ acute) ≡ codes "a_B__"
unfolding chars encode_utf8
one_for_each_character = refl

commas : split_at (codes "a,,b,") (codes ",") ≡ Ok (codes "a" ∷ [] ∷ codes "b" ∷ [] ∷ [])
commas = refl

not_inside_one_another : split_at (codes "aaa") (codes "aa") ≡ Ok ([] ∷ codes "a" ∷ [])
not_inside_one_another = refl

nothing_to_split : split_at [] (codes ",") ≡ Ok ([] ∷ [])
nothing_to_split = refl

empty_separator : split_at (codes "a") [] ≡ Err refusal.Arguments
empty_separator = refl

two_words : words (codes " a  b ") ≡ codes "a" ∷ codes "b" ∷ []
two_words = refl

no_words : words (codes " \t ") ≡ []
no_words = refl

all_ends : lines (codes "a\r\nb\n\rc\n") ≡ codes "a" ∷ codes "b" ∷ [] ∷ codes "c" ∷ []
all_ends = refl

no_lines : lines [] ≡ []
no_lines = refl

empty_line : lines (codes "\n") ≡ [] ∷ []
empty_line = refl

dashes : joined_texts (codes "-") (codes "a" ∷ [] ∷ codes "b" ∷ []) ≡ codes "a--b"
dashes = refl

nothing_joined : joined_texts (codes "-") [] ≡ []
nothing_joined = refl

from_the_left : replaced_text (codes "aaa") (codes "aa") (codes "b") ≡ Ok (codes "ba")
from_the_left = refl

-- places are found from the left, and a name is not looked at again
in_order : segments places.Numbers (codes "@1@ @0@") ≡ place (codes "1") ∷ text (codes " ") ∷ place (codes "0") ∷ []
in_order = refl

taken_at_is_gone : segments places.Numbers (codes "@0@0@") ≡ place (codes "0") ∷ text (codes "0@") ∷ []
taken_at_is_gone = refl

no_places : segments places.Numbers (codes "@@ @x@ a@b@ 1@0@") ≡ text (codes "@@ @x@ a@b@ 1") ∷ place (codes "0") ∷ []
no_places = refl

behind_another_at : segments places.Numbers (codes "@@00@") ≡ text (codes "@") ∷ place (codes "00") ∷ []
behind_another_at = refl

names : segments places.Names (codes "@a@b@_c1@@1@") ≡ place (codes "a") ∷ text (codes "b") ∷ place (codes "_c1") ∷ text (codes "@1@") ∷ []
names = refl
