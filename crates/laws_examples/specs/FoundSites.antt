-- Which numbers a set finds of sites: those of `fall`, `arg 0` and `int 10`.
use Rattle.std.specs.Prelude.{Some, None}
use Rattle.model.specs.sites.SetRules.{IsFoundAs}
use Rattle.laws_examples.specs.Fall.{fall_set}
use Rattle.laws_examples.specs.SetForms.{byte}

-- 10 is found at 1, and that 9 isn't there is found too; that 10 isn't there, or stands at 0, is not
pub record SitesAreFound : Type 0 where
  pub ten : IsFoundAs fall_set (byte 10) (Some 1)
  pub nine : IsFoundAs fall_set (byte 9) None
  pub ten_is_there : IsFoundAs fall_set (byte 10) None → ⊥
  pub ten_not_first : IsFoundAs fall_set (byte 10) (Some 0) → ⊥
