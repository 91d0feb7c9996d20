-- From what clap answers to a line or a fault.
use Rattle.std.proofs.Common.{◌≡◌, ◌⊎◌, ◌∙◌, ℕ, Bool, true, false, List, Some, None, Err, refl, sym, subst, inl, inr, if◌then◌else◌}
use Rattle.clap.specs.Words.{IsAmong, Row}
use Rattle.clap.specs.Faults.{is_simple_and_free}
use Rattle.clap.specs.declared.error.kind.ErrorKind.{ErrorKind}
use Rattle.clap.specs.declared.error.kind.ErrorKind.TheVariants as kind
use Rattle.support.specs.paths.BuildFolders.{names_build_folder, tidy_path}
use Rattle.command_line.specs.CommandLine.{Answers, FaultOfKind, faults_of, given_with, meson_app}
use Rattle.command_line.specs.declared.fault.LineFault.{LineFault}
use Rattle.command_line.specs.declared.line.Task.{Task}
use Rattle.command_line.specs.declared.fault.LineFault.TheVariants.{Help, Usage, Memory}

-- clap's words on the matches and faults of a command hold of this one
pub meson_is_simple : is_simple_and_free meson_app ≡ true
meson_is_simple = refl

-- an error of clap's leads to a fault that is due
pub due : (words : List (List ℕ)) (found : ErrorKind) (fault : LineFault) → FaultOfKind found fault
    → (found ≡ kind.OutOfMemory) ⊎ IsAmong found (faults_of words) → Answers words (Err fault)
due words found (Help text) is (inl memory) =
    let bad : kind.DisplayHelp ≡ kind.OutOfMemory = sym is ∙ memory in
    cc
due words found (Help text) is (inr among) = subst (λ k. IsAmong k (faults_of words)) is among
due words found (Usage text) is (inl memory) = absurd (is.1 memory)
due words found (Usage text) is (inr among) = inl (found, among, is.0)
due words found (Memory error) is among = tt

-- where the path names no folder to build in, no line is given
pub refused : (task : Task) (rows : List Row) (path : List ℕ) → (if names_build_folder path then Some (tidy_path path) else None) ≡ None
    → given_with task rows path ≡ None
refused task rows path = go (names_build_folder path) refl
  where
    go : (t : Bool) → names_build_folder path ≡ t → (if names_build_folder path then Some (tidy_path path) else None) ≡ None → given_with task rows path ≡ None
    go true is none =
        let bad : Some (tidy_path path) ≡ None = rw is at none in
        cc
    go false is none = rw is refl
