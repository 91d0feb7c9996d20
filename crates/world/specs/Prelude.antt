-- Collects the names that contracts of calls use.
pub use Rattle.arguments.specs.Arguments.{arguments_data}
pub use Rattle.values.specs.Prelude.{Answers, data_of, items_of, string_in, within, within_bytes}
pub use Rattle.world.specs.Answering.{Refuses}
pub use Rattle.world.specs.Caller.{Does, MayFail, state_of}
pub use Rattle.world.specs.Deed.{Files}
pub use Rattle.world.specs.Gives.{Holds, failures_after}
pub use Rattle.world.specs.HereView.{here_view}
pub use Rattle.world.specs.SettingsView.{settings_view}
pub use Rattle.world.specs.Store.{world_of}
