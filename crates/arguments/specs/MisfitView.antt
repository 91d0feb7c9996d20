-- Defines the view of a misfit.
use Rattle.values.specs.View.{data_of}
use Rattle.arguments.specs.Misfits.{MisfitData, Twice, LeftOut, TooFew, TooMany, Place, Unknown, Keyword, Missing}
use Rattle.arguments.specs.declared.mismatch.Mismatch.{Mismatch}
use Rattle.arguments.specs.declared.mismatch.Mismatch.TheVariants as misfits

-- Returns the data of a misfit, with the names as bytes and the values as plain data.
abbrev pub misfit_data : Mismatch → MisfitData
misfit_data (misfits.Twice name) = Twice name.now
misfit_data (misfits.LeftOut name) = LeftOut name.now
misfit_data (misfits.TooFew needed given) = TooFew needed given
misfit_data (misfits.TooMany most) = TooMany most
misfit_data (misfits.Place place kind value) = Place place kind (data_of value.now)
misfit_data (misfits.Unknown name) = Unknown name.now
misfit_data (misfits.Keyword name kind value) = Keyword name.now kind (data_of value.now)
misfit_data (misfits.Missing name) = Missing name.now
