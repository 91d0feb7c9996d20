-- Defines refusals of arguments.
use Rattle.std.specs.Prelude.{ℕ, List, Result, string_bytes}
use Rattle.std.specs.Result.{result_map_both}
use Rattle.support.specs.declared.faults.refusal.Refusal.{Refusal}
use Rattle.support.specs.declared.faults.refusal.Refusal.TheVariants as refusals
use Rattle.arguments.specs.Rules.{breach_message}
use Rattle.arguments.specs.declared.refused.ArgumentError.{ArgumentError}
use Rattle.arguments.specs.declared.rule.Rule.{Rule}

-- A refusal, and its detail as a message.
pub record RefusedData : Type 0 where
  pub refusal : Refusal
  pub detail : List ℕ

-- Returns the refusal E9 of arguments in which this text, or the keyword with this name, breaks the rule.
unfoldable pub breaks : Rule → List ℕ → RefusedData
breaks rule text = record { refusal = refusals.Arguments; detail = breach_message rule text }

-- ---- results that the code makes

-- Returns the plain data of a refusal.
abbrev pub refused_data : ArgumentError → RefusedData
refused_data r = record { refusal = r.refusal; detail = string_bytes r.detail }

-- Returns a result seen through this view, or its refusal.
abbrev pub said_data : {A B : Type 0} → (B → A) → Result B ArgumentError → Result A RefusedData
said_data view r = result_map_both view refused_data r

-- Returns a result, or the plain data of its refusal.
abbrev pub answer_data : {A : Type 0} → Result A ArgumentError → Result A RefusedData
answer_data r = said_data (λ a. a) r
