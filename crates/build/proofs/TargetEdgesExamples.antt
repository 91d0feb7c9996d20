-- Edges that a person worked out, which the definitions have to give.
use Rattle.std.proofs.Common.{◌≡◌, ℕ, ◌==◌, true, false, List, [], ◌∷◌, Option, Some, None, map, codes, refl}
use Rattle.std.specs.List.{slice_split}
use Rattle.build.specs.edge.Texts.{Path, Text}
use Rattle.build.specs.edge.Data.{EdgeData}
use Rattle.build.specs.declared.edge.rule.EdgeRule.TheVariants as rule
use Rattle.build.specs.Data.{FactsData, SourceData, TargetData, Build, Custom, Tree, Made, BuildData, ListsData}
use Rattle.build.specs.declared.target.TargetKind.{TargetKind}
use Rattle.build.specs.declared.target.TargetKind.TheVariants.{Executable, StaticLibrary, SharedLibrary}
use Rattle.build.specs.target_edges.Edges.{all_edges}
use Rattle.build.specs.target_edges.Ways.{relative_way}

-- ---- a project without options, and its targets

abbrev facts : FactsData
facts = record {
  name = codes "p";
  version = codes "1";
  license = [];
  depth = 1;
  source_root = codes "/s";
  build_root = codes "/s/build";
  compiler = codes "cc" ∷ [];
  archiver = codes "ar" ∷ [];
  flags = record { warning_level = 1; is_werror = false; c_std = codes "none"; optimization = codes "0"; is_debug = true; c_args = []; c_link_args = [] };
  options = [];
}

abbrev edges : List TargetData → List EdgeData
edges targets = all_edges (record { facts = facts; arguments = []; link_arguments = [] }) targets

-- a target of these sources that links these
abbrev lists : List SourceData → List ℕ → ListsData
lists sources numbers = record { sources = sources; include_folders = []; compile_args = []; link_args = []; link_with = numbers }

abbrev target : TargetKind → (folder : Path) (name : Text) → List SourceData → List ℕ → Option Text → BuildData
target kind folder name sources numbers version = record {
  kind = kind;
  folder = folder;
  name = name;
  own = lists sources numbers;
  dependencies = [];
  version = version;
  soversion = None;
  is_default = true;
  is_installed = false;
}

-- the words of a command, with a space between them
abbrev words : List ℕ → List Text
words text = slice_split (λ b. b == 32) text

-- ---- a program of one source

abbrev compiled : EdgeData
compiled = record {
  rule = rule.CCompile;
  outputs = codes "prog.p/main.c.o" ∷ [];
  inputs = codes "../main.c" ∷ [];
  implicit = [];
  order_only = [];
  words = words (codes "cc -I. -I.. -Wall -O0 -g -MD -MQ prog.p/main.c.o -MF prog.p/main.c.o.d -o prog.p/main.c.o -c ../main.c");
  redirect = None;
  description = codes "Compiling C object prog.p/main.c.o";
  depfile = Some (codes "prog.p/main.c.o.d");
}

abbrev joined : EdgeData
joined = record {
  rule = rule.CLink;
  outputs = codes "prog" ∷ [];
  inputs = codes "prog.p/main.c.o" ∷ [];
  implicit = [];
  order_only = [];
  words = words (codes "cc -o prog prog.p/main.c.o");
  redirect = None;
  description = codes "Linking target prog";
  depfile = None;
}

program : edges (Build (target Executable [] (codes "prog") (Tree (codes "main.c") ∷ []) [] None) ∷ []) ≡ compiled ∷ joined ∷ []
program = refl

-- ---- a program of the folder `bin` with a shared library of `lib`, which has a static one

abbrev a : TargetData
a = Build (target StaticLibrary (codes "lib") (codes "a") (Tree (codes "lib/a.c") ∷ []) [] None)

abbrev s : TargetData
s = Build (target SharedLibrary (codes "lib") (codes "s") (Tree (codes "lib/s.c") ∷ []) (0 ∷ []) (Some (codes "1.2.3")))

abbrev e : TargetData
e = Build (target Executable (codes "bin") (codes "e") (Tree (codes "bin/main.c") ∷ []) (1 ∷ []) None)

commands : map (λ edge. edge.words) (edges (a ∷ s ∷ e ∷ [])) ≡
    words (codes "cc -Ilib -I../lib -Wall -O0 -g -fPIC -MD -MQ lib/liba.a.p/lib_a.c.o -MF lib/liba.a.p/lib_a.c.o.d -o lib/liba.a.p/lib_a.c.o -c ../lib/a.c")
    ∷ words (codes "ar csr lib/liba.a lib/liba.a.p/lib_a.c.o")
    ∷ words (codes "cc -Ilib -I../lib -Wall -O0 -g -fPIC -MD -MQ lib/libs.so.1.2.3.p/lib_s.c.o -MF lib/libs.so.1.2.3.p/lib_s.c.o.d -o lib/libs.so.1.2.3.p/lib_s.c.o -c ../lib/s.c")
    ∷ words (codes "cc -shared -fPIC -Wl,-soname,libs.so.1 -o lib/libs.so.1.2.3 lib/libs.so.1.2.3.p/lib_s.c.o lib/liba.a")
    ∷ words (codes "ln -f -s libs.so.1.2.3 lib/libs.so.1")
    ∷ words (codes "ln -f -s libs.so.1.2.3 lib/libs.so")
    ∷ words (codes "cc -Ibin -I../bin -Wall -O0 -g -MD -MQ bin/e.p/bin_main.c.o -MF bin/e.p/bin_main.c.o.d -o bin/e.p/bin_main.c.o -c ../bin/main.c")
    ∷ words (codes "cc -o bin/e bin/e.p/bin_main.c.o lib/libs.so.1.2.3 -Wl,-rpath,$ORIGIN/../lib")
    ∷ []
commands = refl

-- what is made anew with each: a link with its libraries, a symbolic link with its file
needs : map (λ edge. edge.implicit) (edges (a ∷ s ∷ e ∷ []))
    ≡ [] ∷ [] ∷ [] ∷ (codes "lib/liba.a" ∷ []) ∷ [] ∷ [] ∷ [] ∷ (codes "lib/libs.so.1.2.3" ∷ []) ∷ []
needs = refl

told : map (λ edge. edge.description) (edges (s ∷ []))
    ≡ codes "Compiling C object lib/libs.so.1.2.3.p/lib_s.c.o" ∷ codes "Linking target lib/libs.so.1.2.3" ∷ codes "Linking name lib/libs.so.1" ∷ codes "Linking name lib/libs.so" ∷ []
told = refl

-- ---- made sources

abbrev made : TargetData
made = Custom (record {
  name = codes "gen";
  folder = codes "sub";
  outputs = codes "g.c" ∷ codes "g.h" ∷ [];
  inputs = Tree (codes "sub/g.y") ∷ [];
  needs = Tree (codes "gen.py") ∷ [];
  words = words (codes "../gen.py ../sub/g.y sub/g.c sub/g.h");
  captures = false;
  depfile = Some (codes "g.d");
  longest = 4;
  is_default = false;
  is_installed = false;
})

generating : edges (made ∷ []) ≡ record {
  rule = rule.CustomDep;
  outputs = codes "sub/g.c" ∷ codes "sub/g.h" ∷ [];
  inputs = codes "../sub/g.y" ∷ [];
  implicit = codes "../gen.py" ∷ [];
  order_only = [];
  words = words (codes "../gen.py ../sub/g.y sub/g.c sub/g.h");
  redirect = None;
  description = codes "Generating sub/g.c sub/g.h";
  depfile = Some (codes "sub/g.d");
} ∷ []
generating = refl

-- a made C source is compiled, and what is made else is made before each
abbrev of_made : TargetData
of_made = Build (target Executable [] (codes "prog") (Tree (codes "main.c") ∷ Made (codes "sub/g.c" ∷ codes "sub/g.h" ∷ []) ∷ []) [] None)

from_made : map {B = List Path × List Path × List Path} (λ edge. (edge.outputs, edge.inputs, edge.order_only)) (edges (of_made ∷ [])) ≡
    (codes "prog.p/main.c.o" ∷ [], codes "../main.c" ∷ [], codes "sub/g.h" ∷ [])
    ∷ (codes "prog.p/sub_g.c.o" ∷ [], codes "sub/g.c" ∷ [], codes "sub/g.h" ∷ [])
    ∷ (codes "prog" ∷ [], codes "prog.p/main.c.o" ∷ codes "prog.p/sub_g.c.o" ∷ [], [])
    ∷ []
from_made = refl

-- ---- ways

-- first parts that both have are left out, whole ones alone
down : relative_way [] (codes "a/b") ≡ codes "/a/b"
down = refl

beside : relative_way (codes "a/b/c") (codes "a/d") ≡ codes "/../../d"
beside = refl

no_whole_part : relative_way (codes "lib") (codes "lib2") ≡ codes "/../lib2"
no_whole_part = refl

same_folder : relative_way (codes "a/b") (codes "a/b") ≡ []
same_folder = refl
