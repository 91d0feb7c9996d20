-- Defines what a project refuses, and the details of each refusal.
use Rattle.std.specs.Prelude.{ℕ, List, [], ◌++◌, Result, Ok, Err, codes, string_bytes}
use Rattle.build.specs.edge.Texts.{Text}
use Rattle.support.specs.declared.faults.refusal.Refusal.{Refusal}
use Rattle.support.specs.declared.faults.refusal.Refusal.TheVariants.{NinjaName, Duplicate, Limit, LateArguments}
use Rattle.build.specs.declared.project.refusal.ProjectError.{ProjectError}

-- The refusal, and its details in words.
pub record RefusedData : Type 0 where
  pub why : Refusal
  pub detail : List ℕ

-- Returns the details of a refusal for a path, a word or the name of a target. The caller words those of E9 and E14, for which it checks
-- earlier.
abbrev pub detail_for_text : Refusal → Text → List ℕ
detail_for_text NinjaName text = codes "'" ++ (text ++ codes "': has what Ninja can't hold")
detail_for_text Duplicate path = codes "output '" ++ (path ++ codes "': exists already")
detail_for_text Limit text = codes "a list of the target: has more than 65,536 items"
detail_for_text LateArguments name = codes "target '" ++ (name ++ codes "': is declared before")
detail_for_text refusal text = []

-- Returns the refusal for this text.
unfoldable pub refusal_for_text : Refusal → Text → RefusedData
refusal_for_text why text = record { why = why; detail = detail_for_text why text }

-- ---- the values of the code

-- Returns an error of the code as plain data, with its details as bytes.
abbrev pub refused_data : ProjectError → RefusedData
refused_data r = record { why = r.why; detail = string_bytes r.detail }

-- Returns a result of the code with its error as plain data. A success stays as it is.
abbrev pub answer_data : {A : Type 0} → Result A ProjectError → Result A RefusedData
answer_data (Ok a) = Ok a
answer_data (Err r) = Err (refused_data r)
