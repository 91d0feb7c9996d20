-- Defines faults, and the line that reports one.
use Rattle.std.specs.Prelude.{ℕ, List, [], ◌++◌, Option, Some, None, codes, decimal}
use Rattle.support.specs.declared.faults.refusal.Refusal.{Refusal}
use Rattle.support.specs.declared.faults.refusal.Refusal.TheVariants as refusals

-- A fault: the file, the line in it, the refusal, and the detail: a name, path or message.
pub record FaultData : Type 0 where
  pub file : List ℕ
  pub line : ℕ
  pub refusal : Refusal
  pub detail : List ℕ

-- Returns a fault without a detail: its place says enough.
abbrev pub plain_fault : List ℕ → ℕ → Refusal → FaultData
plain_fault file line refusal = record { file = file; line = line; refusal = refusal; detail = [] }

-- Returns the number of a refusal that users see, and its text. E18 has no text but its message.
abbrev pub told_of : Refusal → ℕ × List ℕ
told_of refusals.NotUtf8 = (1, codes "not UTF-8")
told_of refusals.Token = (2, codes "token")
told_of refusals.Grammar = (3, codes "grammar")
told_of refusals.Nesting = (4, codes "nesting over 64")
told_of refusals.UndefinedName = (5, codes "undefined name")
told_of refusals.Type = (6, codes "type in operator or condition")
told_of refusals.Range = (7, codes "number range or zero divisor")
told_of refusals.UnknownFunction = (8, codes "unknown function or method")
told_of refusals.Arguments = (9, codes "arguments")
told_of refusals.Absent = (10, codes "index or key")
told_of refusals.Duplicate = (11, codes "duplicate")
told_of refusals.Subdir = (12, codes "subdir refused")
told_of refusals.ProjectCall = (13, codes "project call")
told_of refusals.FileMissing = (14, codes "file missing")
told_of refusals.OptionValue = (15, codes "option")
told_of refusals.MachineFile = (16, codes "machine file")
told_of refusals.NotFound = (17, codes "required thing not found")
told_of refusals.Message = (18, [])
told_of refusals.Template = (19, codes "template")
told_of refusals.Frozen = (20, codes "frozen configuration data")
told_of refusals.NinjaName = (21, codes "a name Ninja can't hold")
told_of refusals.Limit = (22, codes "limit")
told_of refusals.LeftOut = (23, codes "left out by name")
told_of refusals.LateArguments = (24, codes "arguments added after a target")

-- Returns the number of a refusal.
abbrev pub fault_number : Refusal → ℕ
fault_number refusal = (told_of refusal).0

-- Returns the words of a refusal.
abbrev pub words_of : Refusal → List ℕ
words_of refusal = (told_of refusal).1

-- Returns the text that is printed before the detail, and none if the detail is not printed.
abbrev pub detail_sign : Refusal → Option (List ℕ)
detail_sign refusals.UndefinedName = Some (codes ": ")
detail_sign refusals.UnknownFunction = Some (codes ": ")
detail_sign refusals.FileMissing = Some (codes ": ")
detail_sign refusals.NotFound = Some (codes ": ")
detail_sign refusals.Message = Some []
detail_sign refusal = None

-- Returns the detail with the text before it, and nothing if the detail is not printed.
abbrev pub detail_behind : Option (List ℕ) → List ℕ → List ℕ
detail_behind None detail = []
detail_behind (Some sign) detail = sign ++ detail

-- Returns the detail as it is printed.
abbrev pub detail_text : FaultData → List ℕ
detail_text f = detail_behind (detail_sign f.refusal) f.detail

-- Returns `E` with the number, a space, the text and the detail.
abbrev pub fault_text : FaultData → List ℕ
fault_text f = codes "E" ++ (decimal (fault_number f.refusal) ++ (codes " " ++ (words_of f.refusal ++ detail_text f)))

-- Returns the line `FILE:LINE: ERROR: TEXT`, with its newline.
abbrev pub fault_line : FaultData → List ℕ
fault_line f = f.file ++ (codes ":" ++ (decimal f.line ++ (codes ": ERROR: " ++ (fault_text f ++ codes "\n"))))
