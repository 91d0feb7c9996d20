use Rattle.std.proofs.Common.{◌∙◌, ◌≡◌, ap, length, sym, string_bytes, Some}
use Rattle.std.specs.Option.{option_map}
use Rattle.support.specs.paths.BuildFolders.{names_build_folder, tidy_path}
use Rattle.support.specs.paths.Paths.{parts_of}
use Rattle.support.specs.paths.Below.{path_below}
use Rattle.world.proofs.MadeSettings.{made, named}
use Rattle.world.proofs.settings.Settings.new.Goals as goal

pub returns : goal.returns
returns c =
    let folder = string_bytes c.in-Some.folder in
    let given : Some folder ≡ _ = ap (option_map string_bytes) (sym c.in-Some.is) ∙ c.in_ok-folder.ensures.folder in
    let n = named (names_build_folder c.args.build_folder.now) folder (tidy_path c.args.build_folder.now) given in
    record {
      absolute = sym c.is_absolute.ensures ∙ c.if-not-is_absolute.false;
      below = n.0;
      settings = made c.args.source_root.now c.args.build_folder.now _ _ _ _ folder
          (c.depth_of.ensures.value ∙ ap (λ t. length (parts_of t)) c.as_str-2.ensures.value) c.in_ok-from_str.ensures.ok
          (c.in_ok-build_root.ensures ∙ ap (path_below c.args.source_root.now) c.as_str.ensures.value) n.1;
    }
