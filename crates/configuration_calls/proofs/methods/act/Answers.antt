use Rattle.std.proofs.Common.{ap, sym}
use Rattle.arguments.specs.Arguments.{arguments_data}
use Rattle.world.proofs.Answering.{carries_as}
use Rattle.configuration_calls.specs.Methods.{does}
use Rattle.configuration_calls.proofs.methods.act.Goals as goal

pub returns-in-Get : goal.returns-in-Get
returns-in-Get g c = carries_as (ap (λ m. does m c.args.number (arguments_data c.args.arguments.now)) (sym c.in-Get.is)) c.get.ensures

pub returns-in-GetUnquoted : goal.returns-in-GetUnquoted
returns-in-GetUnquoted g c = carries_as (ap (λ m. does m c.args.number (arguments_data c.args.arguments.now)) (sym c.in-GetUnquoted.is)) c.get-in-GetUnquoted.ensures

pub returns-in-Has : goal.returns-in-Has
returns-in-Has g c = carries_as (ap (λ m. does m c.args.number (arguments_data c.args.arguments.now)) (sym c.in-Has.is)) c.has.ensures

pub returns-in-Keys : goal.returns-in-Keys
returns-in-Keys g c = carries_as (ap (λ m. does m c.args.number (arguments_data c.args.arguments.now)) (sym c.in-Keys.is)) c.keys.ensures

pub returns-in-MergeFrom : goal.returns-in-MergeFrom
returns-in-MergeFrom g c = carries_as (ap (λ m. does m c.args.number (arguments_data c.args.arguments.now)) (sym c.in-MergeFrom.is)) c.merge_from.ensures

pub returns-in-Set : goal.returns-in-Set
returns-in-Set g c = carries_as (ap (λ m. does m c.args.number (arguments_data c.args.arguments.now)) (sym c.in-Set.is)) c.set.ensures

pub returns-in-Set10 : goal.returns-in-Set10
returns-in-Set10 g c = carries_as (ap (λ m. does m c.args.number (arguments_data c.args.arguments.now)) (sym c.in-Set10.is)) c.set10.ensures

pub returns-in-SetQuoted : goal.returns-in-SetQuoted
returns-in-SetQuoted g c = carries_as (ap (λ m. does m c.args.number (arguments_data c.args.arguments.now)) (sym c.in-SetQuoted.is)) c.set_text_quoted.ensures
