-- Defines the methods of values by name, for each type of the page "Reference manual".
use Rattle.std.specs.Prelude.{ℕ, List, Option, Some, None, codes, bytes_eq, if◌then◌else◌}
use Rattle.values.specs.declared.language_names.value_methods.BooleanMethod.{BooleanMethod}
use Rattle.values.specs.declared.language_names.value_methods.BooleanMethod.TheVariants as booleans
use Rattle.values.specs.declared.language_names.value_methods.IntegerMethod.{IntegerMethod}
use Rattle.values.specs.declared.language_names.value_methods.IntegerMethod.TheVariants as integers
use Rattle.values.specs.declared.language_names.value_methods.TextMethod.{TextMethod}
use Rattle.values.specs.declared.language_names.value_methods.TextMethod.TheVariants as texts
use Rattle.values.specs.declared.language_names.value_methods.ListMethod.{ListMethod}
use Rattle.values.specs.declared.language_names.value_methods.ListMethod.TheVariants as lists
use Rattle.values.specs.declared.language_names.value_methods.DictionaryMethod.{DictionaryMethod}
use Rattle.values.specs.declared.language_names.value_methods.DictionaryMethod.TheVariants as dictionaries

-- Returns the method of a boolean with this name.
abbrev pub boolean_method_named : List ℕ → Option BooleanMethod
boolean_method_named name =
    if bytes_eq name (codes "to_int") then Some booleans.ToInt
    else if bytes_eq name (codes "to_string") then Some booleans.ToString
    else None

-- Returns the method of an integer with this name.
abbrev pub integer_method_named : List ℕ → Option IntegerMethod
integer_method_named name =
    if bytes_eq name (codes "is_even") then Some integers.IsEven
    else if bytes_eq name (codes "is_odd") then Some integers.IsOdd
    else if bytes_eq name (codes "to_string") then Some integers.ToString
    else None

-- Returns the method of a text with this name.
abbrev pub text_method_named : List ℕ → Option TextMethod
text_method_named name =
    if bytes_eq name (codes "contains") then Some texts.Contains
    else if bytes_eq name (codes "startswith") then Some texts.StartsWith
    else if bytes_eq name (codes "endswith") then Some texts.EndsWith
    else if bytes_eq name (codes "format") then Some texts.Format
    else if bytes_eq name (codes "join") then Some texts.Join
    else if bytes_eq name (codes "replace") then Some texts.Replace
    else if bytes_eq name (codes "split") then Some texts.Split
    else if bytes_eq name (codes "splitlines") then Some texts.SplitLines
    else if bytes_eq name (codes "strip") then Some texts.Strip
    else if bytes_eq name (codes "substring") then Some texts.Substring
    else if bytes_eq name (codes "to_int") then Some texts.ToInt
    else if bytes_eq name (codes "to_lower") then Some texts.ToLower
    else if bytes_eq name (codes "to_upper") then Some texts.ToUpper
    else if bytes_eq name (codes "underscorify") then Some texts.Underscorify
    else if bytes_eq name (codes "version_compare") then Some texts.VersionCompare
    else None

-- Returns the method of a list with this name.
abbrev pub list_method_named : List ℕ → Option ListMethod
list_method_named name =
    if bytes_eq name (codes "contains") then Some lists.Contains
    else if bytes_eq name (codes "get") then Some lists.Get
    else if bytes_eq name (codes "length") then Some lists.Length
    else None

-- Returns the method of a dictionary with this name.
abbrev pub dictionary_method_named : List ℕ → Option DictionaryMethod
dictionary_method_named name =
    if bytes_eq name (codes "get") then Some dictionaries.Get
    else if bytes_eq name (codes "has_key") then Some dictionaries.HasKey
    else if bytes_eq name (codes "keys") then Some dictionaries.Keys
    else None
