-- The document has no float, and nests four levels at most.
use Rattle.std.proofs.Common.{List, [], ◌∷◌, codes}
use Rattle.std.specs.Prelude.{fold}
use Rattle.serde_json.specs.Data.{Members}
use Rattle.build.specs.Data.{OptionData, text, boolean, integer, texts, OptionEntryData, TargetData, Build, Custom}
use Rattle.build.specs.Files.{file_path, output_paths}
use Rattle.build.specs.project.World.{WorldData, AnswerData, InstallData, TestData}
use Rattle.introspection.specs.Document.{option_value, option_entry, type_name, build_options, dependency_entry, dependencies}
use Rattle.introspection.specs.Document.{with_installed, installed_files, project_info, definition_file, kind_name, target_entry}
use Rattle.introspection.specs.Document.{test_entry, tests, document_of}
use Rattle.introspection.proofs.Shape.{IsPlain, ArePlain, none, nothing, next, plain_string, plain_boolean, plain_integer, plain_list}
use Rattle.introspection.proofs.Shape.{plain_strings, plain_object, plain_put, plain_fields}

plain_option_value : (o : OptionData) → IsPlain 1 (option_value o)
plain_option_value (text t) = plain_string t
plain_option_value (boolean b) = plain_boolean b
plain_option_value (integer n) = plain_integer n
plain_option_value (texts ts) = plain_strings ts

plain_option : (o : OptionEntryData) → IsPlain 2 (option_entry o)
plain_option o =
    plain_fields (next (codes "name") (plain_string o.name) (next (codes "type") (plain_string (type_name o.kind)) (next (codes "value") (plain_option_value o.value) nothing)))

plain_dependency : (a : AnswerData) → IsPlain 2 (dependency_entry a)
plain_dependency a =
    plain_fields (next (codes "found") (plain_boolean a.is_found) (next (codes "name") (plain_string a.name) (next (codes "version") (plain_string a.version) nothing)))

plain_installs : {ms : Members} (is : List InstallData) → ArePlain 2 ms → ArePlain 2 (fold with_installed ms is)
plain_installs [] hs = hs
plain_installs {ms = ms} (i ∷ is) hs = plain_installs {ms = with_installed ms i} is (plain_put i.source (plain_string i.destination) hs)

plain_target : (t : TargetData) → IsPlain 2 (target_entry t)
plain_target (Build t) =
    plain_fields
    (next (codes "build_by_default") (plain_boolean t.is_default)
    (next (codes "defined_in") (plain_string (definition_file t.folder))
    (next (codes "filename") (plain_strings (file_path t ∷ []))
    (next (codes "installed") (plain_boolean t.is_installed)
    (next (codes "name") (plain_string t.name)
    (next (codes "type") (plain_string (kind_name t.kind)) nothing))))))
plain_target (Custom t) =
    plain_fields
    (next (codes "build_by_default") (plain_boolean t.is_default)
    (next (codes "defined_in") (plain_string (definition_file t.folder))
    (next (codes "filename") (plain_strings (output_paths t))
    (next (codes "installed") (plain_boolean t.is_installed)
    (next (codes "name") (plain_string t.name)
    (next (codes "type") (plain_string (codes "custom")) nothing))))))

plain_test : (t : TestData) → IsPlain 2 (test_entry t)
plain_test t =
    plain_fields
    (next (codes "cmd") (plain_strings t.command)
    (next (codes "env") (plain_strings t.environment)
    (next (codes "name") (plain_string t.name)
    (next (codes "should_fail") (plain_boolean t.should_fail)
    (next (codes "suite") (plain_strings t.suites)
    (next (codes "timeout") (plain_integer t.timeout) nothing))))))

pub plain_options : (w : WorldData) → IsPlain 3 (build_options w)
plain_options w = plain_list option_entry w.surroundings.facts.options plain_option

pub plain_dependencies : (w : WorldData) → IsPlain 3 (dependencies w)
plain_dependencies w = plain_list dependency_entry w.dependencies plain_dependency

pub plain_installed : (w : WorldData) → IsPlain 3 (installed_files w)
plain_installed w = plain_object (plain_installs w.installs none)

pub plain_info : (w : WorldData) → IsPlain 3 (project_info w)
plain_info w =
    let f = w.surroundings.facts in
    plain_fields (next (codes "license") (plain_strings f.license) (next (codes "name") (plain_string f.name) (next (codes "version") (plain_string f.version) nothing)))

pub plain_tests : (w : WorldData) → IsPlain 3 (tests w)
plain_tests w = plain_list test_entry w.tests plain_test

pub plain_document : (w : WorldData) → IsPlain 4 (document_of w)
unfolding document_of
plain_document w =
    plain_fields
    (next (codes "buildoptions") (plain_options w)
    (next (codes "buildsystem_files") (plain_fields (next (codes "absent") (plain_strings w.absent) (next (codes "present") (plain_strings w.present) nothing)))
    (next (codes "dependencies") (plain_dependencies w)
    (next (codes "installed") (plain_installed w)
    (next (codes "projectinfo") (plain_info w)
    (next (codes "targets") (plain_list target_entry w.targets plain_target)
    (next (codes "tests") (plain_tests w) nothing)))))))
