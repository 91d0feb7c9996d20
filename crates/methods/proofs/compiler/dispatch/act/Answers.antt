use Rattle.std.proofs.Common.{ap, sym}
use Rattle.arguments.specs.Arguments.{arguments_data}
use Rattle.methods.specs.CompilerMethods.{does}
use Rattle.world.proofs.Answering.{carries_as}
use Rattle.methods.proofs.compiler.dispatch.act.Goals as goal

pub returns-in-Check : goal.returns-in-Check
returns-in-Check g c = carries_as (ap (λ m. does m c.args.name.now (arguments_data c.args.arguments.now)) (sym c.in-Check.is)) c.check.ensures

pub returns-in-CheckInside : goal.returns-in-CheckInside
returns-in-CheckInside g c = carries_as (ap (λ m. does m c.args.name.now (arguments_data c.args.arguments.now)) (sym c.in-CheckInside.is)) c.check-in-CheckInside.ensures

pub returns-in-FindLibrary : goal.returns-in-FindLibrary
returns-in-FindLibrary g c = carries_as (ap (λ m. does m c.args.name.now (arguments_data c.args.arguments.now)) (sym c.in-FindLibrary.is)) c.find_library.ensures

pub returns-in-Id : goal.returns-in-Id
returns-in-Id g c = carries_as (ap (λ m. does m c.args.name.now (arguments_data c.args.arguments.now)) (sym c.in-Id.is)) c.read_key.ensures

pub returns-in-Number : goal.returns-in-Number
returns-in-Number g c = carries_as (ap (λ m. does m c.args.name.now (arguments_data c.args.arguments.now)) (sym c.in-Number.is)) c.number.ensures

pub returns-in-SupportedArguments : goal.returns-in-SupportedArguments
returns-in-SupportedArguments g c = carries_as (ap (λ m. does m c.args.name.now (arguments_data c.args.arguments.now)) (sym c.in-SupportedArguments.is)) c.get_supported_arguments.ensures

pub returns-in-Version : goal.returns-in-Version
returns-in-Version g c = carries_as (ap (λ m. does m c.args.name.now (arguments_data c.args.arguments.now)) (sym c.in-Version.is)) c.read_key-in-Version.ensures
