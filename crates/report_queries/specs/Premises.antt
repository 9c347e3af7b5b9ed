-- Which premises of the headline a lowered term meets whatever the called terms mean.
use Rattle.std.specs.Prelude.{Bool, true, false, List, slice_get}
use Rattle.std.specs.List.{list_all}
use Rattle.cranelift_isle.specs.Tables.{TypeEntry}
use Rattle.cranelift_isle.specs.Sites.{Constraint, is_variant, is_struct, is_bool, is_int, is_prim, is_present, SetRule, SiteSet}
use Rattle.cranelift_isle.specs.Serves.{is_own_type}

-- whether a constraint asks no constant whose value a meaning may choose: no named one, and no integer of a type that isn't
-- built in
abbrev pub asks_own_constant : List TypeEntry → Constraint → Bool
asks_own_constant types (is_variant ty variant fields) = true
asks_own_constant types (is_struct ty fields) = true
asks_own_constant types (is_bool b ty) = true
asks_own_constant types (is_int z ty) = is_own_type (slice_get types ty)
asks_own_constant types (is_prim name) = false
asks_own_constant types is_present = true

abbrev pub rule_asks_own : List TypeEntry → SetRule → Bool
rule_asks_own types r = list_all (λ c. asks_own_constant types c.1) r.constraints

abbrev pub asks_own_constants : List TypeEntry → SiteSet → Bool
asks_own_constants types set = list_all (rule_asks_own types) set.rules
