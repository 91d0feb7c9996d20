-- Words of custom targets that a person worked out, which the definitions have to give.
use Rattle.std.proofs.Common.{◌≡◌, [], ◌∷◌, Some, None, codes, refl}
use Rattle.sources.specs.Holes.{PlaceData, filled_text, words_of}
use Rattle.sources.specs.declared.placeholders.PlaceholderScope.TheVariants.{Command, FileName}

-- a target of the folder `sub`, with one input and two outputs
abbrev place : PlaceData
place = record {
  inputs = codes "../sub/x.y.in" ∷ [];
  outputs = codes "sub/o.c" ∷ codes "sub/o.h" ∷ [];
  depfile = None;
  build_folder = codes "sub";
  source_folder = codes "../sub";
  source_root = codes "..";
}

names : filled_text Command place (codes "@PLAINNAME@:@BASENAME@") ≡ Some (codes "x.y.in:x.y")
names = refl

folders : filled_text Command place (codes "-I@OUTDIR@,@CURRENT_SOURCE_DIR@,@SOURCE_ROOT@,@BUILD_ROOT@,@PRIVATE_DIR@") ≡ Some (codes "-Isub,../sub,..,.,sub/o.c.p")
folders = refl

numbered : filled_text Command place (codes "@INPUT0@>@OUTPUT1@") ≡ Some (codes "../sub/x.y.in>sub/o.h")
numbered = refl

-- there is no third output, no depfile, and no one output
beyond : filled_text Command place (codes "@OUTPUT2@") ≡ None
beyond = refl

without_depfile : filled_text Command place (codes "-MF@DEPFILE@") ≡ None
without_depfile = refl

one_of_two : filled_text Command place (codes "-o@OUTPUT@") ≡ None
one_of_two = refl

-- as a word alone it is all outputs
all_outputs : words_of place (codes "@OUTPUT@") ≡ Some (codes "sub/o.c" ∷ codes "sub/o.h" ∷ [])
all_outputs = refl

-- another name stays, and its last `@` may begin a placeholder
other_names : filled_text Command place (codes "me@home@BASENAME@") ≡ Some (codes "me@homex.y")
other_names = refl

-- the name of an output knows the names of the input alone
in_names : filled_text FileName place (codes "@BASENAME@.@OUTDIR@") ≡ Some (codes "x.y.@OUTDIR@")
in_names = refl
