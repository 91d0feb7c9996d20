-- What the definitions say of projects and of edges that are written out.
use Rattle.std.proofs.Common.{◌≡◌, Bool, true, false, None, List, [], ◌∷◌, codes, refl, arith}
use Rattle.build.specs.edge.Texts.{Path, Text}
use Rattle.build.specs.Data.{FactsData, TargetData, Custom}
use Rattle.build.specs.project.World.{WorldData, new_world}
use Rattle.ninja.specs.Reading.{BuildEdge}
use Rattle.ninja.specs.Defaults.{default_outputs}
use Rattle.backend.specs.FileEdges.{are_made, Reaches, at_once, through}
use Rattle.backend.specs.Means.{Means}

abbrev facts : FactsData
facts = record {
  name = codes "p";
  version = codes "undefined";
  license = [];
  depth = 1;
  source_root = codes "/s";
  build_root = codes "/s/build";
  compiler = codes "cc" ∷ [];
  archiver = codes "ar" ∷ [];
  flags = record {
    warning_level = 1;
    is_werror = false;
    c_std = codes "none";
    optimization = codes "0";
    is_debug = true;
    c_args = [];
    c_link_args = [];
  };
  options = [];
}

-- a custom target without inputs, that makes one file
abbrev made : (name : Text) (is_default : Bool) → TargetData
made name is_default = Custom (record {
  name = name;
  folder = [];
  outputs = name ∷ [];
  inputs = [];
  needs = [];
  words = codes "true" ∷ [];
  captures = false;
  depfile = None;
  longest = 1;
  is_default = is_default;
  is_installed = false;
})

abbrev world : List TargetData → WorldData
world targets = record (new_world facts) { targets = targets }

-- `all` names what is built by default, in the order of declaration
names : default_outputs (world (made (codes "b") true ∷ made (codes "c") false ∷ made (codes "a") true ∷ [])) ≡ codes "b" ∷ codes "a" ∷ []
names = refl

-- a project that makes a file `all` itself has no such meaning: the path would be made twice
not_all : Means (world (made (codes "all") true ∷ [])) → ⊥
not_all m = let h = m.once (codes "all") in absurd (omega arith)

-- nor has one that makes the file over which it is built
not_build_file : Means (world (made (codes "build.ninja") true ∷ [])) → ⊥
not_build_file m = let h = m.once (codes "build.ninja") in absurd (omega arith)

-- ---- edges

abbrev edge : (output : Path) (input : Path) → BuildEdge
edge output input = record {
  outputs = output ∷ [];
  implicit_outputs = [];
  rule = codes "r";
  inputs = input ∷ [];
  implicit = [];
  order_only = [];
  bindings = [];
}

-- what is needed has to be made before
in_order : are_made (codes "../s" ∷ []) (edge (codes "a") (codes "../s") ∷ edge (codes "b") (codes "a") ∷ []) ≡ true
in_order = refl

out_of_order : are_made (codes "../s" ∷ []) (edge (codes "b") (codes "a") ∷ edge (codes "a") (codes "../s") ∷ []) ≡ false
out_of_order = refl

-- two edges that need one another
circle : Reaches (edge (codes "a") (codes "b") ∷ edge (codes "b") (codes "a") ∷ []) 0 0
circle = through 0 1 0 (record { path = codes "a"; made = refl; needed = refl }) (at_once 1 0 (record { path = codes "b"; made = refl; needed = refl }))
