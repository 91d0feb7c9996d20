-- A call by a name, against what evaluation does of it.
use Rattle.std.proofs.Common.{◌≡◌, ℕ, List, [], Bool, true, false, ◌||◌, Option, Some, None, IsTrue, Result, Ok, Err, refl, sym, ap, ◌∙◌}
use Rattle.std.specs.Prelude.{ok_or}
use Rattle.support.specs.Faults.{FaultData}
use Rattle.support.specs.declared.faults.refusal.Refusal.{Refusal}
use Rattle.values.specs.Data.{Data, is_disabler, object_in}
use Rattle.values.specs.declared.language_names.functions.Function.{Function}
use Rattle.values.specs.declared.object.Object.{Object}
use Rattle.values.specs.declared.refusal.OperationRefusal.{OperationRefusal as OperationRefusal}
use Rattle.values.specs.language_names.Functions.{function_named}
use Rattle.values.specs.language_names.Names.{is_left_out}
use Rattle.arguments.specs.Arguments.{ArgumentsData}
use Rattle.arguments.specs.Disablers.{gives_disabler}
use Rattle.arguments.specs.Misfits.{arguments_check}
use Rattle.arguments.specs.Refused.{RefusedData}
use Rattle.arguments.specs.Rows.{any_values}
use Rattle.language_calls.specs.Turning.{is_turned_off}
use Rattle.methods.specs.Left.{is_left_out as is_left_out_method}
use Rattle.methods.specs.Methods.{has_method as has_object_method, object_method}
use Rattle.operations.specs.methods.Methods.{answer as method_answer, has_name}
use Rattle.world.specs.Deed.{Files, perform, read, then, give as give_deed}
use Rattle.world.specs.Fit.{fit, deed_of_result}
use Rattle.world.specs.Plan.{Plan, at, carry, deed, give, next}
use Rattle.world.specs.Run.{Run, ran, Done, Faulted, follow}
use Rattle.world.specs.World.{World, fault_here}
use Rattle.world.proofs.Follow.{after-nil}
use Rattle.expressions.specs.Details.{method_detail}
use Rattle.expressions.specs.Forms as forms
use Rattle.interp.specs.ByName.{answered_with, function_call, function_called_by, known_name, method_by, method_call}
use Rattle.interp.specs.ByName.{method_called_by, method_called_on, method_called_unless, method_in, method_of, refusal_of_name, value_method}
use Rattle.interp.specs.Expressions as evaluation
use Rattle.interp.specs.Functions.{call}
use Rattle.interp.specs.Laws.{CallsAsEvaluated}

-- ---- steps that change nothing

-- a step that gives a value comes before the rest
first : {A B : Type 0} (files : Files) (w : World) (p : Plan A) (others : A → Plan B) (x : A) → carry files p w ≡ ran (Done x) w []
    → carry files (next p others) w ≡ carry files (others x) w
first files w p others x e = ap (λ r. follow r (λ a. carry files (others a))) e ∙ after-nil (carry files (others x) w)

-- of a step that is refused the rest never comes
gone : {A B : Type 0} (files : Files) (w : World) (p : Plan A) (others : A → Plan B) (f : FaultData) → carry files p w ≡ ran (Faulted f) w []
    → carry files (next p others) w ≡ ran (Faulted f) w []
gone files w p others f e = ap (λ r. follow r (λ a. carry files (others a))) e

-- a name that names nothing
refused-as : {A : Type 0} (files : Files) (w : World) (name : List ℕ) (left : Bool)
    → carry files (forms.refused_name {A = A} w.facts.line name left) w ≡ ran (Faulted (fault_here w (refusal_of_name left) name)) w []
refused-as files w name true = refl
refused-as files w name false = refl

-- what is allowed where `project` was called
allowed-as : (files : Files) (w : World) (begun other : Bool) → IsTrue begun → carry files (forms.allowed_call w.facts.line (begun || other)) w ≡ ran (Done tt) w []
allowed-as files w true other h = refl
allowed-as files w false other h = cc

-- ---- functions

function-called : (files : Files) (w : World) (off : Bool) (f : Function) (a : ArgumentsData)
    → perform files (function_called_by off f a) w ≡ carry files (evaluation.called_by off w.facts.line f a) w
function-called files w true f a = refl
function-called files w false f a = sym (first files w (at w.facts.line) (λ u. deed (call f a)) tt refl)

-- the function inside of an expression that a name was looked up to
inside : ℕ → List ℕ → Option Function → Plan Function
inside line name o = next (forms.known_function line name o) (λ f. next (deed read) (λ facts. next (forms.allowed_call line (facts.is_begun || forms.may_come_first f)) (λ u. give f)))

inside-some : (files : Files) (w : World) (name : List ℕ) (f : Function) → IsTrue w.facts.is_begun → carry files (inside w.facts.line name (Some f)) w ≡ ran (Done f) w []
unfolding inside
inside-some files w name f h =
    first files w (give f) (λ g. next (deed read) (λ facts. next (forms.allowed_call w.facts.line (facts.is_begun || forms.may_come_first g)) (λ u. give g))) f refl
    ∙ first files w (deed read) (λ facts. next (forms.allowed_call w.facts.line (facts.is_begun || forms.may_come_first f)) (λ u. give f)) w.facts refl
    ∙ first files w (forms.allowed_call w.facts.line (w.facts.is_begun || forms.may_come_first f)) (λ u. give f) tt (allowed-as files w w.facts.is_begun (forms.may_come_first f) h)

inside-none : (files : Files) (w : World) (name : List ℕ) → carry files (inside w.facts.line name None) w ≡ ran (Faulted (fault_here w (refusal_of_name (is_left_out name)) name)) w []
unfolding inside
inside-none files w name =
    gone files w (forms.known_function w.facts.line name None) (λ f. next (deed read) (λ facts. next (forms.allowed_call w.facts.line (facts.is_begun || forms.may_come_first f)) (λ u. give f)))
    (fault_here w (refusal_of_name (is_left_out name)) name) (refused-as files w name (is_left_out name))

function-as : (files : Files) (w : World) (name : List ℕ) (a : ArgumentsData) (o : Option Function) → IsTrue w.facts.is_begun
    → perform files (function_call (ok_or o (refusal_of_name (is_left_out name))) name a) w ≡ carry files (next (inside w.facts.line name o) (λ f. evaluation.plan_of_call w.facts.line f a)) w
function-as files w name a (Some f) h =
    function-called files w (is_turned_off f a) f a
    ∙ sym (first files w (inside w.facts.line name (Some f)) (λ g. evaluation.plan_of_call w.facts.line g a) f (inside-some files w name f h))
function-as files w name a None h =
    sym (gone files w (inside w.facts.line name None) (λ g. evaluation.plan_of_call w.facts.line g a) (fault_here w (refusal_of_name (is_left_out name)) name) (inside-none files w name))

-- ---- methods

-- what a look for a method comes to
looked : World → List ℕ → Result (Unit {0}) Refusal → Run (Unit {0})
looked w name (Ok u) = ran (Done tt) w []
looked w name (Err refusal) = ran (Faulted (fault_here w refusal name)) w []

object-looks : (files : Files) (w : World) (has : Bool) (o : Object) (name : List ℕ) → IsTrue w.facts.is_begun
    → carry files (evaluation.known_object_method has w.facts.line o name) w ≡ looked w name (known_name has (is_left_out_method o name))
unfolding looked
object-looks files w true o name h =
    first files w (deed read) (λ facts. forms.allowed_call w.facts.line (facts.is_begun || forms.may_be_asked_first o)) w.facts refl
    ∙ allowed-as files w w.facts.is_begun (forms.may_be_asked_first o) h
object-looks files w false o name h = refused-as files w name (is_left_out_method o name)

value-looks : (files : Files) (w : World) (has : Bool) (name : List ℕ) → carry files (forms.known_method has w.facts.line name) w ≡ looked w name (known_name has false)
unfolding looked
value-looks files w true name = refl
value-looks files w false name = refl

in-looks : (files : Files) (w : World) (o : Option Object) (d : Data) (name : List ℕ) → IsTrue w.facts.is_begun
    → carry files (evaluation.method_at_by false o w.facts.line d name) w ≡ looked w name (method_in o d name)
in-looks files w (Some o) d name h = object-looks files w (has_object_method o name) o name h
in-looks files w None d name h = value-looks files w (has_name d name) name

method-looks : (files : Files) (w : World) (off : Bool) (d : Data) (name : List ℕ) → IsTrue w.facts.is_begun
    → carry files (evaluation.method_at_by off (object_in d) w.facts.line d name) w ≡ looked w name (method_by off d name)
unfolding looked
method-looks files w true d name h = refl
method-looks files w false d name h = in-looks files w (object_in d) d name h

-- what a value's method answers, by what a test of its arguments answers
value-by : (files : Files) (w : World) (r : Result (Unit {0}) RefusedData) (detail : OperationRefusal → List ℕ) (q : Result Data OperationRefusal)
    → perform files (then (deed_of_result r) (λ u. then (answered_with detail q) (λ e. give_deed (Some e)))) w
    ≡ carry files (next (forms.check_at_line w.facts.line r) (λ u. next (forms.answered_with w.facts.line detail q) (λ e. give (Some e)))) w
value-by files w (Ok u) detail (Ok d) = refl
value-by files w (Ok u) detail (Err refusal) = refl
value-by files w (Err refused) detail q = refl

value-as : (files : Files) (w : World) (d : Data) (name : List ℕ) (a : ArgumentsData)
    → perform files (value_method d name a) w ≡ carry files (forms.value_method w.facts.line d name a) w
unfolding value_method fit
value-as files w d name a = value-by files w (arguments_check any_values a) (method_detail d name a.positional) (method_answer d name a.positional)

on-called : (files : Files) (w : World) (o : Option Object) (d : Data) (name : List ℕ) (a : ArgumentsData)
    → perform files (method_called_on o d name a) w ≡ carry files (evaluation.method_by false o w.facts.line d name a) w
on-called files w (Some o) d name a = sym (first files w (at w.facts.line) (λ u. deed (object_method o name a)) tt refl)
on-called files w None d name a = value-as files w d name a

unless-called : (files : Files) (w : World) (off : Bool) (d : Data) (name : List ℕ) (a : ArgumentsData)
    → perform files (method_called_unless off d name a) w ≡ carry files (evaluation.method_by off (object_in d) w.facts.line d name a) w
unless-called files w true d name a = refl
unless-called files w false d name a = on-called files w (object_in d) d name a

by-called : (files : Files) (w : World) (off : Bool) (d : Data) (name : List ℕ) (a : ArgumentsData)
    → perform files (method_called_by off d name a) w ≡ carry files (evaluation.method_called_by off w.facts.line d name a) w
by-called files w true d name a = refl
by-called files w false d name a = unless-called files w (gives_disabler a) d name a

-- a method that was looked up so
method-as : (files : Files) (w : World) (r : Result (Unit {0}) Refusal) (p : Plan (Unit {0})) (d : Data) (name : List ℕ) (a : ArgumentsData) → carry files p w ≡ looked w name r
    → perform files (method_call r d name a) w ≡ carry files (next p (λ u. next (give a) (λ x. evaluation.method_called w.facts.line d name x))) w
unfolding looked
method-as files w (Ok u) p d name a e =
    by-called files w (is_disabler d) d name a
    ∙ sym (first files w p (λ u. next (give a) (λ x. evaluation.method_called w.facts.line d name x)) tt e
    ∙ first files w (give a) (λ x. evaluation.method_called w.facts.line d name x) a refl)
method-as files w (Err refusal) p d name a e =
    sym (gone files w p (λ u. next (give a) (λ x. evaluation.method_called w.facts.line d name x)) (fault_here w refusal name) e)

-- ---- both

pub calls_as_evaluated : CallsAsEvaluated
unfolding inside
calls_as_evaluated files w None name a h = function-as files w name a (function_named name) h
calls_as_evaluated files w (Some d) name a h =
    method-as files w (method_of d name) (evaluation.method_at w.facts.line d name) d name a (method-looks files w (is_disabler d) d name h)
