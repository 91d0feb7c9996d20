-- What `auto_features` makes of a value.
use Rattle.std.proofs.Common.{◌≡◌, true, false, refl}
use Rattle.option_values.specs.declared.kind.FeatureState.{FeatureState}
use Rattle.option_values.specs.declared.kind.FeatureState.TheVariants as feature
use Rattle.option_values.specs.Values as value
use Rattle.options.specs.FillIns.{decided_value, is_auto}

pub is_decided : (state : FeatureState) (w : value.Value) → is_auto w ≡ true → value.Feature state ≡ decided_value state w
is_decided state (value.Feature feature.Auto) e = refl
is_decided state (value.Feature feature.Enabled) e = absurd cc
is_decided state (value.Feature feature.Disabled) e = absurd cc
is_decided state (value.Text text) e = absurd cc
is_decided state (value.Boolean boolean) e = absurd cc
is_decided state (value.Combo choice) e = absurd cc
is_decided state (value.Integer number) e = absurd cc
is_decided state (value.Array items) e = absurd cc

pub stays_decided : (state : FeatureState) (w : value.Value) → is_auto w ≡ false → decided_value state w ≡ w
stays_decided state (value.Feature feature.Auto) e = absurd cc
stays_decided state (value.Feature feature.Enabled) e = refl
stays_decided state (value.Feature feature.Disabled) e = refl
stays_decided state (value.Text text) e = refl
stays_decided state (value.Boolean boolean) e = refl
stays_decided state (value.Combo choice) e = refl
stays_decided state (value.Integer number) e = refl
stays_decided state (value.Array items) e = refl
