-- What the types of the code say of names.
use Rattle.std.specs.Prelude.{ℕ, Bool, false, List, map, Option, option_map, string_bytes, String}
use Rattle.std.specs.HashMap.{HashMap, get_by_text}
use Rattle.rust_items.specs.declared.claims.Claim as C
use Rattle.rust_items.specs.declared.claims.Namespace as K
use Rattle.rust_items.specs.declared.claims.Own.{Own}
use Rattle.rust_items.specs.declared.claims.Own.TheVariants.{Nothing, Values, Types}
use Rattle.rust_items.specs.Claims.{Claim, Namespace}
use Rattle.rust_items.specs.OwnNames.{is_own_type, is_own_value}

abbrev pub claim_view : C.Claim → Claim
claim_view c = record { written = string_bytes c.written; owner = string_bytes c.owner }

abbrev pub claim_views : List C.Claim → List Claim
claim_views cs = map claim_view cs

abbrev pub is_own : Own → List ℕ → Bool
is_own Nothing name = false
is_own Values name = is_own_value name
is_own Types name = is_own_type name

abbrev pub kind_view : K.Namespace → Namespace
kind_view k = record { what = k.what.now; one = k.one.now; own = is_own k.own; claims = claim_views k.claims.items }

abbrev pub kind_views : List K.Namespace → List Namespace
kind_views ks = map kind_view ks

-- what has a name so far
abbrev pub owner_in : {Y Z S : Type 0} → HashMap (String Y) (String Z) S → List ℕ → Option (List ℕ)
owner_in m q = option_map string_bytes (get_by_text m q)
