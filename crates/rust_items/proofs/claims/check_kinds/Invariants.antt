use Rattle.std.proofs.Common.{take}
use Rattle.std.specs.Prelude.{All}
use Rattle.rust_items.specs.Claims.{IsWellNamed}
use Rattle.rust_items.specs.ClaimViews.{kind_views}
use Rattle.rust_items.proofs.claims.check_kinds.Given as goal

abbrev pub invariant-loop-kind : goal.invariant-loop-kind
invariant-loop-kind l = All IsWellNamed (kind_views (take l.kind-index l.kinds))
