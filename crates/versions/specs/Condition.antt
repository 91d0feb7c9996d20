-- Defines conditions on a version: a relation, and the version to compare with.
use Rattle.std.specs.Prelude.{ℕ, Bool, List, length, take, drop, codes, if◌then◌else◌, bytes_eq}
use Rattle.std.specs.declared.cmp.Ordering.{Ordering}
use Rattle.std.specs.Ordering.{is_lt, is_le, is_eq, is_ne, is_gt, is_ge}
use Rattle.versions.specs.declared.Relation.{Relation}
use Rattle.versions.specs.declared.Relation.TheVariants as relation
use Rattle.versions.specs.Version.{version_order}

-- Holds if a relation allows this order of two versions.
abbrev pub allows : Relation → Ordering → Bool
allows relation.AtLeast = is_ge
allows relation.AtMost = is_le
allows relation.NotEqual = is_ne
allows relation.Equal = is_eq
allows relation.Above = is_gt
allows relation.Below = is_lt

-- Holds if a condition begins with this operator.
abbrev pub begins_with : List ℕ → List ℕ → Bool
begins_with bytes sign = bytes_eq (take (length sign) bytes) sign

-- Returns the relation of a condition's operator. A condition without an operator requires an equal version.
abbrev pub relation_of : List ℕ → Relation
relation_of condition =
    if begins_with condition (codes ">=") then relation.AtLeast
    else if begins_with condition (codes "<=") then relation.AtMost
    else if begins_with condition (codes "!=") then relation.NotEqual
    else if begins_with condition (codes "==") then relation.Equal
    else if begins_with condition (codes "=") then relation.Equal
    else if begins_with condition (codes ">") then relation.Above
    else if begins_with condition (codes "<") then relation.Below
    else relation.Equal

-- Returns the length of a condition's operator in bytes.
abbrev pub sign_length : List ℕ → ℕ
sign_length condition =
    if begins_with condition (codes ">=") then 2
    else if begins_with condition (codes "<=") then 2
    else if begins_with condition (codes "!=") then 2
    else if begins_with condition (codes "==") then 2
    else if begins_with condition (codes "=") then 1
    else if begins_with condition (codes ">") then 1
    else if begins_with condition (codes "<") then 1
    else 0

-- Holds if a version meets a condition.
abbrev pub meets : List ℕ → List ℕ → Bool
meets version condition = allows (relation_of condition) (version_order version (drop (sign_length condition) condition))
