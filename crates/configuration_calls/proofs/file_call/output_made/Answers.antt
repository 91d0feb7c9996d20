use Rattle.std.proofs.Common.{option_map, ap, ◌∙◌}
use Rattle.support.specs.paths.Paths.{path_in}
use Rattle.world.specs.Deed.{Files}
use Rattle.world.specs.Making.{reserved_output, written_output}
use Rattle.world.proofs.Acting.{acts_as, room_after}
use Rattle.world.proofs.Answering.{carries_as, room_later}
use Rattle.world.proofs.Values.{two}
use Rattle.configuration_calls.specs.ConfigureFile.{output_made, prepared_path}
use Rattle.configuration_calls.specs.GivenView.{given_view}
use Rattle.configuration_calls.specs.Written.{filling_in}
use Rattle.configuration_calls.proofs.Filling.{of_made, of_none, of_read, of_unready, of_untaken, of_unwritten}
use Rattle.configuration_calls.proofs.file_call.output_made.Goals as goal

pub returns-in_err-folder : goal.returns-in_err-folder
returns-in_err-folder g c = of_none c.from_residual.ensures.1

pub returns-in_err-take_output : goal.returns-in_err-take_output
unfolding output_made
returns-in_err-take_output g c =
    let folder = c.as_str.ensures.value ∙ c.in_ok-folder.ensures.ok ∙ c.folder.ensures in
    of_read (of_untaken (acts_as (two (λ f n (files : Files). reserved_output f n) folder c.text-name.ensures) c.in_err-take_output.ensures) c.from_residual-in_err-take_output.ensures.1)

pub write_output-requires : goal.write_output-requires
write_output-requires g c = room_later (room_after c.requires c.in_ok-take_output.ensures) c.in_ok-path.ensures.carries

pub returns-in_err-path : goal.returns-in_err-path
unfolding output_made
returns-in_err-path g c =
    let folder = c.as_str.ensures.value ∙ c.in_ok-folder.ensures.ok ∙ c.folder.ensures in
    let again = c.as_str-2.ensures.value ∙ c.in_ok-folder.ensures.ok ∙ c.folder.ensures in
    of_read (of_unready (acts_as (two (λ f n (files : Files). reserved_output f n) folder c.text-name.ensures) c.in_ok-take_output.ensures)
    (carries_as (two (λ f n. prepared_path (path_in f n) (given_view c.args.given.now).number) again c.text-name.ensures) c.in_err-path.ensures.carries) c.from_residual-in_err-path.ensures.1)

pub returns-in_err-write_output : goal.returns-in_err-write_output
unfolding output_made
returns-in_err-write_output g c =
    let folder = c.as_str.ensures.value ∙ c.in_ok-folder.ensures.ok ∙ c.folder.ensures in
    let again = c.as_str-2.ensures.value ∙ c.in_ok-folder.ensures.ok ∙ c.folder.ensures in
    let path = c.as_str-3.ensures.text ∙ c.in_ok-path.ensures.path ∙ two path_in again c.text-name.ensures in
    of_read (of_unwritten (acts_as (two (λ f n (files : Files). reserved_output f n) folder c.text-name.ensures) c.in_ok-take_output.ensures)
    (carries_as (two (λ f n. prepared_path (path_in f n) (given_view c.args.given.now).number) again c.text-name.ensures) c.in_ok-path.ensures.carries)
    (acts_as (ap (λ p (files : Files). written_output p (filling_in (given_view c.args.given.now).entries (option_map (λ t. t.now) c.args.template) files)) path) c.in_err-write_output.ensures)
    c.from_residual-in_err-write_output.ensures.1)

pub returns : goal.returns
unfolding output_made
returns g c =
    let folder = c.as_str.ensures.value ∙ c.in_ok-folder.ensures.ok ∙ c.folder.ensures in
    let again = c.as_str-2.ensures.value ∙ c.in_ok-folder.ensures.ok ∙ c.folder.ensures in
    let path = c.as_str-3.ensures.text ∙ c.in_ok-path.ensures.path ∙ two path_in again c.text-name.ensures in
    of_read (of_made (acts_as (two (λ f n (files : Files). reserved_output f n) folder c.text-name.ensures) c.in_ok-take_output.ensures)
    (carries_as (two (λ f n. prepared_path (path_in f n) (given_view c.args.given.now).number) again c.text-name.ensures) c.in_ok-path.ensures.carries)
    (acts_as (ap (λ p (files : Files). written_output p (filling_in (given_view c.args.given.now).entries (option_map (λ t. t.now) c.args.template) files)) path) c.in_ok-write_output.ensures))
