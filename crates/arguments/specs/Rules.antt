-- Defines rules for arguments that no row expresses, and the messages about what breaks them.
use Rattle.std.specs.Prelude.{ℕ, List, [], ◌++◌, codes}
use Rattle.arguments.specs.declared.rule.Rule.{Rule}
use Rattle.arguments.specs.declared.rule.Rule.TheVariants as rules

-- Returns the two texts that a rule's message has around the quoted text that breaks it: the kind of that text, or nothing, and the reason.
abbrev pub told_of : Rule → List ℕ × List ℕ
told_of rules.NamesFile = ([], codes "names no file of the project")
told_of rules.NamesFolder = ([], codes "names no folder of the project")
told_of rules.IsTargetName = ([], codes "is no name of a target")
told_of rules.IsFileName = ([], codes "is no name of a file")
told_of rules.IsSource = ([], codes "is no source of C")
told_of rules.HasSource = ([], codes "has no source of C")
told_of rules.IsLibraryVersion = ([], codes "is no version of a library")
told_of rules.IsManPage = ([], codes "is no name of a man page")
told_of rules.IsSettable = ([], codes "is no name that can be set")
told_of rules.IsVariableName = ([], codes "is no name of a variable")
told_of rules.HasProgram = ([], codes "needs a program that was found")
told_of rules.HasOneOutput = ([], codes "needs a target with one output")
told_of rules.HasCompiler = ([], codes "is no language that has a compiler")
told_of rules.GoesUp = ([], codes "needs a start from 0, a stop from the start and a step from 1")
told_of rules.IsValueName = ([], codes "is no name of a value")
told_of rules.IsSetting = ([], codes "takes a text, an integer or a truth value")
told_of rules.IsAssignment = ([], codes "has no '='")
told_of rules.TakesLibraries = (codes "keyword ", codes "takes libraries")
told_of rules.TakesC = (codes "keyword ", codes "takes 'c'")
told_of rules.HasItems = (codes "keyword ", codes "is empty")
told_of rules.TakesOneOutput = (codes "keyword ", codes "takes one output")
told_of rules.IsNeeded = (codes "keyword ", codes "is missing, and is needed")
told_of rules.TakesOneFile = (codes "keyword ", codes "takes one file")
told_of rules.TakesTreeFile = (codes "keyword ", codes "takes a file of the project")
told_of rules.HasMeaning = (codes "keyword ", codes "has a placeholder or a program without a value")
told_of rules.TakesText = ([], codes "takes a text")
told_of rules.RunsProgram = ([], codes "has a program that was not found")
told_of rules.RunsNoLibrary = ([], codes "runs a library")
told_of rules.IsPrinted = ([], codes "has a value that can't be printed")
told_of rules.IsC = (codes "language ", codes "is not C")
told_of rules.IsOption = (codes "option ", codes "there is none")
told_of rules.IsBelow = (codes "folder ", codes "is none below the present one")
told_of rules.IsNew = (codes "folder ", codes "was entered before")

-- Returns the message that a text, or the keyword with this name, breaks a rule.
abbrev pub breach_message : Rule → List ℕ → List ℕ
breach_message rule text = (told_of rule).0 ++ (codes "'" ++ (text ++ (codes "': " ++ (told_of rule).1)))
