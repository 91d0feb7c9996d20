-- Defines the plain values of the code's types.
use Rattle.std.specs.Prelude.{ℕ, List, map, Option, Result, string_bytes, String}
use Rattle.std.specs.Option.{option_map}
use Rattle.std.specs.Result.{result_map_both}
use denote.Ref.{Bor}
use Rattle.std.specs.declared.alloc.Global.{Global}
use Rattle.machine_file.specs.declared.value.MachineValue.{MachineValue}
use Rattle.machine_file.specs.declared.value.MachineValue.TheVariants as given
use Rattle.machine_file.specs.declared.fault.MachineFault.{MachineFault}
use Rattle.machine_file.specs.declared.machine.Entry.{Entry}
use Rattle.machine_file.specs.declared.machine.Section.{Section}
use Rattle.machine_file.specs.declared.machine.Machine.{Machine}
use Rattle.machine_file.specs.declared.state.OpenSection.{OpenSection}
use Rattle.machine_file.specs.declared.state.Reading.{Reading}
use Rattle.machine_file.specs.declared.line.LineForm.{LineForm}
use Rattle.machine_file.specs.declared.line.LineForm.TheVariants as form
use Rattle.support.specs.declared.faults.fault.Fault.{Fault}
use Rattle.support.specs.Faults.{FaultData}
use Rattle.support.specs.View.{fault_view}
use Rattle.machine_file.specs.Fault.{MachineFaultData}
use Rattle.machine_file.specs.Files as file
use Rattle.machine_file.specs.Lines as line
use Rattle.machine_file.specs.Values.{Value, Text, Integer, Boolean, Texts}

-- Returns each string as the list of its bytes, in the same order.
abbrev pub strings_in : List (String Global) → List (List ℕ)
strings_in strings = map string_bytes strings

-- Returns a value of the code as plain data, with each string as its bytes.
abbrev pub value_in : MachineValue → Value
value_in (given.Text text) = Text (string_bytes text)
value_in (given.Integer number) = Integer number
value_in (given.Boolean boolean) = Boolean boolean
value_in (given.Texts items) = Texts (strings_in items.items)

-- Returns a key and its entry in the code's table as one plain entry.
abbrev pub entry_in : String Global × Entry → file.Entry
entry_in e = record { key = string_bytes e.0; value = value_in e.1.value; line = e.1.line }

-- Returns a key with its entry, as both are shown.
abbrev pub shown_in : Bor (List ℕ) × Bor Entry → file.Entry
shown_in e = record { key = e.0.now; value = value_in e.1.now.value; line = e.1.now.line }

-- Returns the entries of a section of the code as plain data, in the same order.
abbrev pub entries_in : List (String Global × Entry) → List file.Entry
entries_in entries = map entry_in entries

-- Returns the entries of a section, in the order of their lines. The default version of a dependency is last.
abbrev pub entries_of : Section → List file.Entry
entries_of section = entries_in section.entries.entries

-- Returns a name and its section in the code's table as one plain section.
abbrev pub section_in : String Global × Section → file.Section
section_in s = record { name = string_bytes s.0; entries = entries_of s.1 }

-- Returns the sections of the code's table as plain data, in the same order.
abbrev pub sections_in : List (String Global × Section) → List file.Section
sections_in sections = map section_in sections

-- Returns a section with its name, as both are shown.
abbrev pub shown_section_in : Bor (List ℕ) × Bor Section → file.Section
shown_section_in s = record { name = s.0.now; entries = entries_of s.1.now }

-- Returns the sections of a machine file, in the order of their lines.
abbrev pub machine_in : Machine → List file.Section
machine_in machine = sections_in machine.sections.entries

-- Returns the form of a line as plain data, with its borrowed text as bytes.
abbrev pub form_in : LineForm → line.Form
form_in form.Nothing = line.Nothing
form_in (form.Header name) = line.Header name.now
form_in (form.Pair text) = line.Pair text.now

-- Returns the open section of the code as plain data: its name, its kind, its line and its entries so far.
abbrev pub open_in : OpenSection → file.Open
open_in o = record { name = string_bytes o.name; kind = o.kind; line = o.line; entries = entries_in o.entries.entries }

-- Returns the meaning of the lines so far as plain data, given the sections that have ended and the open one, if there is one.
abbrev pub said_by : List (String Global × Section) → Option OpenSection → file.Said
said_by ended current = record { ended = sections_in ended; open_section = option_map open_in current }

-- Returns the meaning of the lines so far as plain data, given the state of the reader.
abbrev pub said_in : Reading → file.Said
said_in reading = said_by reading.ended.entries reading.current

-- Returns what is said after one more line, or why it is not allowed there.
abbrev pub more_in : Result Reading (String Global) → Result file.Said (List ℕ)
more_in more = result_map_both said_in string_bytes more

-- Returns these entries, or why there are no more.
abbrev pub added_in : List file.Entry → Result (Unit {0}) (String Global) → Result (List file.Entry) (List ℕ)
added_in entries added = result_map_both (λ u. entries) string_bytes added

-- Returns a fault of a machine file as plain data, with its details as bytes.
abbrev pub fault_in : MachineFault → MachineFaultData
fault_in f = record { refusal = f.refusal; line = f.line; detail = string_bytes f.detail }

-- Returns the result of reading a machine file as plain data: its sections, or its fault.
abbrev pub read_in : Result Machine MachineFault → Result (List file.Section) MachineFaultData
read_in read = result_map_both machine_in fault_in read

-- Returns the answer of `Machine::read` as plain data: its sections, or its fault as a run reports it.
abbrev pub answer_in : Result Machine Fault → Result (List file.Section) FaultData
answer_in answer = result_map_both machine_in fault_view answer
