-- What stands around a place, as it is kept: the sources of arms and loops in one list.
use Rattle.std.specs.Prelude.{◌≡◌, ℕ, true, List, [], ◌∷◌, ◌++◌, if◌then◌else◌, get_or, set, take}
use Rattle.std.specs.Bool.{◌==◌}
use Rattle.model.specs.sites.Sites.{Site, SiteSet}
use Rattle.model.specs.trees.Places as Places
use Rattle.model.specs.trees.Places.{is_in, joins, all_below, available}
use Rattle.model.specs.trees.Tests.{sources_around}
use Rattle.core_serialize.specs.declared.around.Around.{Around}
use Rattle.core_serialize.specs.declared.around.Renamed.{Renamed}

-- of the arms around only the sources are kept, and they stand with those of the loops: no more is asked of them
abbrev pub around_view : Around → Places.Around
around_view a = record { tested = []; joined = a.joined.items; looped = a.sources; brought = a.brought; emitted = a.emitted }

-- two sites have one name in the table exactly where pairs join them; a site behind its end is its own name
abbrev pub NamesClasses : List (ℕ × ℕ) → List ℕ → Type 0
NamesClasses pairs names = (s t : ℕ) → (get_or names s s == get_or names t t) ≡ joins pairs s t

-- a name where one stands for another
abbrev pub renamed : ℕ → ℕ → ℕ → ℕ
renamed from to n = if n == from then to else n

-- a table in which some sites have a name
abbrev pub named_as : List ℕ → ℕ → List ℕ → List ℕ
named_as [] name names = names
named_as (s ∷ sites) name names = set (named_as sites name names) s name

-- what a table was before sites got another name
abbrev pub names_before : Renamed → List ℕ → List ℕ
names_before r names = take r.len (named_as r.sites.items r.name names)

-- each of some sites is available
abbrev pub AreAtHand : List Site → Places.Around → List ℕ → Type 0
AreAtHand sites ar found = (s : ℕ) → is_in s found ≡ true → available sites ar s ≡ true

-- what is around two places says the same of both: the sources of the arms and loops, the joined pairs, which sites were
-- brought and which are emitted
pub record Alike (ar br : Places.Around) : Type 0 where
  pub sources : (s : ℕ) → is_in s (sources_around ar) ≡ is_in s (sources_around br)
  pub joined : ar.joined ≡ br.joined
  pub brought : (s : ℕ) → is_in s ar.brought ≡ is_in s br.brought
  pub emitted : (s : ℕ) → is_in s ar.emitted ≡ is_in s br.emitted

-- the same place, where these sites are emitted
abbrev pub where_emitted : Places.Around → List ℕ → Places.Around
where_emitted ar sites = record { tested = ar.tested; joined = ar.joined; looped = ar.looped; brought = ar.brought; emitted = sites }

-- around the steps after one that uses these sites
abbrev pub after_uses : SiteSet → Places.Around → List ℕ → Places.Around
after_uses set ar used = where_emitted ar (all_below set.sites used ++ ar.emitted)

-- these sites are the emitted ones after a step that uses some
abbrev pub AreEmitted : SiteSet → Places.Around → List ℕ → List ℕ → Type 0
AreEmitted set ar used sites = (s : ℕ) → is_in s sites ≡ is_in s (all_below set.sites used ++ ar.emitted)

-- the same place, where two sites are joined too
abbrev pub where_joined : Places.Around → ℕ → ℕ → Places.Around
where_joined ar a b = record { tested = ar.tested; joined = (a, b) ∷ ar.joined; looped = ar.looped; brought = ar.brought; emitted = ar.emitted }

-- around the body of an arm or a loop of this source, which brings these sites
abbrev pub brings : Places.Around → ℕ → List ℕ → Places.Around
brings ar s sites = record { tested = []; joined = ar.joined; looped = s ∷ ar.looped; brought = sites ++ ar.brought; emitted = sites ++ ar.emitted }
