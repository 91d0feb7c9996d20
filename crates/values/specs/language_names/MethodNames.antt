-- Defines which method a name calls on each type of receiver.
use Rattle.std.specs.Prelude.{ℕ, List}
use Rattle.values.specs.language_names.ObjectMethods.{compiler_method_named, configuration_method_named, dependency_method_named}
use Rattle.values.specs.language_names.ObjectMethods.{feature_method_named, machine_method_named, meson_method_named, program_method_named}
use Rattle.values.specs.language_names.ObjectMethods.{build_target_method_named, custom_target_method_named, output_method_named}
use Rattle.values.specs.language_names.ValueMethods.{boolean_method_named, dictionary_method_named, integer_method_named, list_method_named}
use Rattle.values.specs.language_names.ValueMethods.{text_method_named}
use Rattle.values.specs.declared.language_names.method_name.Methods.{Methods}
use Rattle.values.specs.declared.language_names.method_name.ObjectMethods.{ObjectMethods}
use Rattle.values.specs.declared.language_names.method_name.ValueMethods.{ValueMethods}

-- Returns the methods of values with this name.
abbrev pub value_methods_named : List ℕ → ValueMethods
value_methods_named name = record {
  boolean = boolean_method_named name;
  integer = integer_method_named name;
  text = text_method_named name;
  list = list_method_named name;
  dictionary = dictionary_method_named name;
}

-- Returns the methods of objects with this name.
abbrev pub object_methods_named : List ℕ → ObjectMethods
object_methods_named name = record {
  compiler = compiler_method_named name;
  configuration = configuration_method_named name;
  dependency = dependency_method_named name;
  feature = feature_method_named name;
  machine = machine_method_named name;
  meson = meson_method_named name;
  program = program_method_named name;
  build_target = build_target_method_named name;
  custom_target = custom_target_method_named name;
  output = output_method_named name;
}

-- Returns all methods with this name.
abbrev pub methods_named : List ℕ → Methods
methods_named name = record { values = value_methods_named name; objects = object_methods_named name }
