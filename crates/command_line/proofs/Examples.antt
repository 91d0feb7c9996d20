-- What the definitions say of command lines that are written out.
use Rattle.std.proofs.Common.{◌≡◌, ◌∷◌, [], List, ℕ, Some, None, codes, refl}
use Rattle.clap.proofs.OnLiterals.{clap_on_literals}
use Rattle.clap.specs.declared.error.kind.ErrorKind.TheVariants.{DisplayHelp, MissingRequiredArgument, MissingSubcommand, UnknownArgument}
use Rattle.clap.specs.declared.error.kind.ErrorKind.TheVariants.{ArgumentConflict, InvalidSubcommand}
use Rattle.command_line.specs.CommandLine.{faults_of, given_in}
use Rattle.command_line.specs.declared.line.Task.TheVariants.{Setup, Questions, Fault}

abbrev Words : Type 0
Words = List (List ℕ)

abbrev plain : Words
plain = codes "meson" ∷ codes "setup" ∷ codes "build" ∷ []

abbrev full : Words
full = codes "meson" ∷ codes "setup" ∷ codes "-Da=b" ∷ codes ".//out/./x/" ∷ codes "-D" ∷ codes "c=-d" ∷ codes "--native-file"
    ∷ codes "m.ini" ∷ []

plain_passes : faults_of plain ≡ []
unfolding clap_on_literals
plain_passes = refl

plain_gives : given_in plain ≡ Some (record { task = Setup; words = []; machine_file = None; folder = codes "build" })
unfolding clap_on_literals
plain_gives = refl

full_passes : faults_of full ≡ []
unfolding clap_on_literals
full_passes = refl

full_gives : given_in full ≡ Some (record {
  task = Setup;
  words = codes "a=b" ∷ codes "c=-d" ∷ [];
  machine_file = Some (codes "m.ini");
  folder = codes "out/x";
})
unfolding clap_on_literals
full_gives = refl

-- the same words of another task
abbrev asking : Words
asking = codes "meson" ∷ codes "questions" ∷ codes "-Da=b" ∷ codes ".//out/./x/" ∷ codes "-D" ∷ codes "c=-d" ∷ codes "--native-file"
    ∷ codes "m.ini" ∷ []

asking_passes : faults_of asking ≡ []
unfolding clap_on_literals
asking_passes = refl

asking_gives : given_in asking ≡ Some (record {
  task = Questions;
  words = codes "a=b" ∷ codes "c=-d" ∷ [];
  machine_file = Some (codes "m.ini");
  folder = codes "out/x";
})
unfolding clap_on_literals
asking_gives = refl

-- and of the third
abbrev telling : Words
telling = codes "meson" ∷ codes "fault" ∷ codes "build" ∷ []

telling_passes : faults_of telling ≡ []
unfolding clap_on_literals
telling_passes = refl

telling_gives : given_in telling ≡ Some (record { task = Fault; words = []; machine_file = None; folder = codes "build" })
unfolding clap_on_literals
telling_gives = refl

-- a task is named whole
other_is_none : faults_of (codes "meson" ∷ codes "question" ∷ codes "build" ∷ []) ≡ UnknownArgument ∷ InvalidSubcommand ∷ []
unfolding clap_on_literals
other_is_none = refl

-- the folder is the current one, is absolute, or leads out of it
current_is_none : given_in (codes "meson" ∷ codes "setup" ∷ codes "./" ∷ []) ≡ None
unfolding clap_on_literals
current_is_none = refl

absolute_is_none : given_in (codes "meson" ∷ codes "setup" ∷ codes "/build" ∷ []) ≡ None
unfolding clap_on_literals
absolute_is_none = refl

upward_is_none : given_in (codes "meson" ∷ codes "setup" ∷ codes "a/../b" ∷ []) ≡ None
unfolding clap_on_literals
upward_is_none = refl

bare_is_refused : faults_of (codes "meson" ∷ []) ≡ MissingSubcommand ∷ []
unfolding clap_on_literals
bare_is_refused = refl

folder_is_needed : faults_of (codes "meson" ∷ codes "setup" ∷ []) ≡ MissingRequiredArgument ∷ []
unfolding clap_on_literals
folder_is_needed = refl

one_machine_file : faults_of (codes "meson" ∷ codes "setup" ∷ codes "b" ∷ codes "--native-file" ∷ codes "m" ∷ codes "--native-file" ∷ codes "n" ∷ [])
    ≡ ArgumentConflict ∷ []
unfolding clap_on_literals
one_machine_file = refl

help_is_shown : faults_of (codes "meson" ∷ codes "setup" ∷ codes "--help" ∷ []) ≡ DisplayHelp ∷ []
unfolding clap_on_literals
help_is_shown = refl

long_form_is_unknown : faults_of (codes "meson" ∷ codes "setup" ∷ codes "--buildtype" ∷ codes "build" ∷ []) ≡ UnknownArgument ∷ []
unfolding clap_on_literals
long_form_is_unknown = refl
