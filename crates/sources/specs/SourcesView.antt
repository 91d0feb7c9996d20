-- Defines the view of named sources.
use Rattle.std.specs.Prelude.{List, map, string_bytes}
use Rattle.std.specs.declared.alloc.Global.{Global}
use Rattle.std.specs.declared.vec.Vec.{Vec}
use Rattle.sources.specs.Sources as plain
use Rattle.sources.specs.declared.sources.NamedSource.{NamedSource}
use Rattle.sources.specs.declared.sources.NamedSource.TheVariants as named

-- Returns the plain data of a named source.
abbrev pub named_view : NamedSource → plain.NamedData
named_view (named.Tree path) = plain.tree (string_bytes path)
named_view (named.Built path) = plain.built path
named_view (named.Outputs target) = plain.outputs target
named_view (named.Output target place) = plain.output target place

-- Returns the plain data of named sources.
abbrev pub named_views : Vec NamedSource Global → List plain.NamedData
named_views sources = map named_view sources.items
