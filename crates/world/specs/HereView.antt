-- Defines the view of the place of a call.
use Rattle.build.specs.DeclaredTargetViews.{declared_target_views}
use Rattle.world.specs.Here.{HereData}
use Rattle.world.specs.declared.caller.call_place.Here.{Here}

-- Returns the plain data of the place of a call.
abbrev pub here_view : Here → HereData
here_view h = record {
  source_root = h.source_root.now;
  build_root = h.build_root.now;
  depth = h.depth;
  folder = h.folder.now;
  earlier = declared_target_views h.earlier.now;
}
