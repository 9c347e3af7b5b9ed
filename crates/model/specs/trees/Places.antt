-- Places of a tree: what is around them, which sites are available and emitted there, and bind orders.
use Rattle.std.specs.Prelude.{ℕ, zero, suc, Bool, true, false, not, ◌&&◌, ◌||◌, List, [], ◌∷◌, ◌++◌, Option, Some, None, if◌then◌else◌, slice_get}
use Rattle.std.specs.Bool.{◌==◌}
use Rattle.std.specs.List.{filter, list_all, list_any, flat_map}
use Rattle.model.specs.sites.Sites.{Site, int_site, prim_site, argument_site, iterator_site, make_variant_site, match_variant_site, make_struct_site, extract_struct_site, match_some_site, match_tuple_site, Constraint, is_variant, is_struct, is_present, SetRule, SiteSet, sources_at}
use Rattle.model.specs.trees.Trees.{MarkedCheck, m_match, m_equal, m_loop, m_return}

-- what stands around a place: the constraints that arms around have met, the pairs that tests around joined, the
-- calls that loops around go over, the sites that arms and loops around brought, and the emitted sites
pub record Around : Type 0 where
  pub tested : List (ℕ × Constraint)
  pub joined : List (ℕ × ℕ)
  pub looped : List ℕ
  pub brought : List ℕ
  pub emitted : List ℕ

abbrev pub nothing_around : Around
nothing_around = record { tested = []; joined = []; looped = []; brought = []; emitted = [] }

abbrev pub is_in : ℕ → List ℕ → Bool
is_in x xs = list_any (λ y. y == x) xs

-- the class of a site under pairs, by one of its members
abbrev pub class : List (ℕ × ℕ) → ℕ → ℕ
class [] x = x
class (p ∷ ps) x = if class ps x == class ps p.0 then class ps p.1 else class ps x

-- whether pairs join two sites
abbrev pub joins : List (ℕ × ℕ) → ℕ → ℕ → Bool
joins pairs a b = class pairs a == class pairs b

-- whether a rule demands that two sites are equal
abbrev pub joins_in : List (List ℕ) → ℕ → ℕ → Bool
joins_in classes a b = list_any (λ c. is_in a c && is_in b c) classes

abbrev pub constraint_at : List (ℕ × Constraint) → ℕ → Option Constraint
constraint_at [] s = None
constraint_at (d ∷ ds) s = if d.0 == s then Some d.1 else constraint_at ds s

-- only an arm or a loop brings these
abbrev pub waits : Option Site → Bool
waits (Some (iterator_site source)) = true
waits (Some (match_variant_site source variant field)) = true
waits (Some (extract_struct_site source field)) = true
waits (Some (match_some_site source)) = true
waits None = true
waits _ = false

-- a site that an arm or a loop brought is available, and so is any other one whose sources all are, but for those that wait
abbrev pub is_available : ℕ → List Site → List ℕ → ℕ → Bool
is_available zero sites brought s = false
is_available (suc n) sites brought s =
    is_in s brought || (not (waits (slice_get sites s)) && list_all (is_available n sites brought) (sources_at sites s))

abbrev pub available : List Site → Around → ℕ → Bool
available sites ar s = is_available (suc s) sites ar.brought s

-- a site and all below it
abbrev pub below : ℕ → List Site → ℕ → List ℕ
below zero sites s = []
below (suc n) sites s = s ∷ flat_map (below n sites) (sources_at sites s)

abbrev pub all_below : List Site → List ℕ → List ℕ
all_below sites ss = flat_map (λ s. below (suc s) sites s) ss

-- the impure calls of a rule in order, then its result
abbrev pub return_uses : Option SetRule → List ℕ
return_uses None = []
return_uses (Some r) = r.impure ++ r.result ∷ []

-- what a step uses: the source of a match, both sites of an equality, the call that a loop goes over, what a rule returns
abbrev pub uses : SiteSet → MarkedCheck → List ℕ
uses set (m_match source arms) = source ∷ []
uses set (m_equal a b body) = a ∷ (b ∷ [])
uses set (m_loop result body) = sources_at set.sites result
uses set (m_return rule) = return_uses (slice_get set.rules rule)

-- what a step emits: all that it uses, with their sources at any depth; of the call that a loop goes over, its sources alone
abbrev pub emits : SiteSet → MarkedCheck → List ℕ
emits set (m_loop result body) = flat_map (λ s. all_below set.sites (sources_at set.sites s)) (sources_at set.sites result)
emits set check = all_below set.sites (uses set check)

-- never in a bind order, since they are written in place
abbrev pub is_in_place : Option Site → Bool
is_in_place (Some (int_site z ty)) = true
is_in_place (Some (prim_site name)) = true
is_in_place (Some (argument_site i)) = true
is_in_place (Some (match_tuple_site source field)) = true
is_in_place (Some (make_variant_site ty variant [])) = true
is_in_place (Some (make_struct_site ty [])) = true
is_in_place _ = false

abbrev pub each_after : {X Y : Type 0} → (Y → X → Y) → Y → List X → Y
each_after f y [] = y
each_after f y (x ∷ xs) = each_after f (f y x) xs

-- the sites below s that aren't emitted, after those already listed: sources first, left to right, each once
abbrev pub listed_below : ℕ → List Site → List ℕ → List ℕ → ℕ → List ℕ
listed_below zero sites emitted done s = done
listed_below (suc n) sites emitted done s =
    if is_in s emitted || is_in s done
    then done
    else each_after (listed_below n sites emitted) done (sources_at sites s) ++ s ∷ []

-- what is bound before a step that uses these sites
abbrev pub bind_order : List Site → Around → List ℕ → List ℕ
bind_order sites ar ss =
    filter (λ s. not (is_in_place (slice_get sites s))) (each_after (λ done s. listed_below (suc s) sites ar.emitted done s) [] ss)

-- the first site that is this one
abbrev pub is_variant_field : ℕ → ℕ → ℕ → Site → Bool
is_variant_field s variant i (match_variant_site source v field) = (source == s) && (v == variant) && (field == i)
is_variant_field s variant i _ = false

abbrev pub is_struct_field : ℕ → ℕ → Site → Bool
is_struct_field s i (extract_struct_site source field) = (source == s) && (field == i)
is_struct_field s i _ = false

abbrev pub is_part_of : ℕ → Site → Bool
is_part_of s (match_some_site source) = source == s
is_part_of s _ = false

abbrev pub site_from : ℕ → (Site → Bool) → List Site → Option ℕ
site_from n p [] = None
site_from n p (b ∷ rest) = if p b then Some n else site_from (suc n) p rest

abbrev pub each_field : (ℕ → Site → Bool) → List Site → ℕ → ℕ → List (Option ℕ)
each_field p sites i zero = []
each_field p sites i (suc n) = site_from 0 (p i) sites ∷ each_field p sites (suc i) n

-- the sites of the fields that a constraint on a site brings, None where there is no such site
abbrev pub fields_of : List Site → ℕ → Constraint → List (Option ℕ)
fields_of sites s (is_variant ty variant fields) = each_field (is_variant_field s variant) sites 0 fields
fields_of sites s (is_struct ty fields) = each_field (is_struct_field s) sites 0 fields
fields_of sites s is_present = site_from 0 (is_part_of s) sites ∷ []
fields_of sites s _ = []

abbrev pub field_sites : List (Option ℕ) → List ℕ
field_sites [] = []
field_sites (None ∷ rest) = field_sites rest
field_sites (Some s ∷ rest) = s ∷ field_sites rest

-- around the body of an arm, of an equality, of a loop, and around the steps after a step
abbrev pub in_arm : SiteSet → Around → ℕ → Constraint → List (Option ℕ) → Around
in_arm set ar s c fields = record {
  tested = (s, c) ∷ ar.tested;
  joined = ar.joined;
  looped = ar.looped;
  brought = field_sites fields ++ ar.brought;
  emitted = field_sites fields ++ all_below set.sites (s ∷ []) ++ ar.emitted;
}

abbrev pub in_equal : SiteSet → Around → ℕ → ℕ → Around
in_equal set ar a b = record {
  tested = ar.tested;
  joined = (a, b) ∷ ar.joined;
  looped = ar.looped;
  brought = ar.brought;
  emitted = all_below set.sites (a ∷ (b ∷ [])) ++ ar.emitted;
}

abbrev pub in_loop : SiteSet → Around → ℕ → Around
in_loop set ar result = record {
  tested = ar.tested;
  joined = ar.joined;
  looped = sources_at set.sites result ++ ar.looped;
  brought = result ∷ ar.brought;
  emitted = result ∷ (flat_map (λ s. all_below set.sites (sources_at set.sites s)) (sources_at set.sites result) ++ ar.emitted);
}

abbrev pub after_step : SiteSet → Around → MarkedCheck → Around
after_step set ar check = record {
  tested = ar.tested;
  joined = ar.joined;
  looped = ar.looped;
  brought = ar.brought;
  emitted = emits set check ++ ar.emitted;
}
