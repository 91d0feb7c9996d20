-- Defines the view of an option file.
use Rattle.options.specs.option_file.View.{options_in}
use Rattle.project_calls.specs.OptionFile.{OptionFileData}
use Rattle.project_calls.specs.declared.option_file.OptionFile.{OptionFile}

-- Returns the plain data of an option file.
abbrev pub file_in : OptionFile → OptionFileData
file_in f = record { path = f.path.now; declared = options_in f.declared }
