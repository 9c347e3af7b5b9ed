-- The sites that a rule's visit equates are made by it, but for variables that nothing binds.
use Rattle.std.proofs.Common.{◌≡◌, ◌⊎◌, List, [], ◌∷◌, Contains, refl, inl, inr, arith}
use Rattle.model.specs.rules.Program.{Program}
use Rattle.model.specs.sites.Sites.{is_present, SiteTerm, no_site}
use Rattle.model.specs.rules.Typed.{TypedRule}
use Rattle.model.specs.visits.Demands.{Demands, demands_of, Visit, asking, unwraps, asking_all}
use Rattle.model.proofs.Elements.{In, in_from_contains, contains_from_in, in_left, in_either}
use Rattle.laws_sites.proofs.WithSites.{by_equating, Onward, KeptWithSites, no_step, rule_given}

-- a site that is made, or none
abbrev IsMade : Demands → SiteTerm → Type 0
IsMade d s = In d.made s ⊎ (s ≡ no_site)

-- what is equated is made
abbrev MakesEqual : Demands → Type 0
MakesEqual d = (e : SiteTerm × SiteTerm) → In d.equalities e → IsMade d e.0 × IsMade d e.1

abbrev OnwardMade : Demands → Demands → Type 0
OnwardMade = Onward MakesEqual IsMade

-- 1. steps
-- a step that makes and equates nothing
asking_all_on : (ss : List SiteTerm) (v : Visit) → MakesEqual v.demands → OnwardMade v.demands (asking_all ss v).demands
asking_all_on [] v h = no_step MakesEqual IsMade v.demands h
asking_all_on (s ∷ ss) v h = let a = asking_all_on ss (asking s is_present v) h in record { holds = a.holds; stays = a.stays }

-- 2. rules
equal_kept : (p : Program) → KeptWithSites MakesEqual IsMade p
equal_kept p = record {
  unbound = λ d. inr refl;
  leaf = λ d s l n. inl n;
  variant = λ d ty variant ss n m. inl n;
  struct = λ d ty ss n m. inl n;
  result = λ d s n m. inl n;
  tuple = λ d s i n m. inl n;
  field = λ d c s x n a i m. inl n;
  extracted = λ d t s flags e f n m. inl n;
  answer = λ d t i ss flags b e f c n m. inl n;
  pick = λ d t i ss c n m. inl n;
  call = λ d t i ss flags b e f g n m. inl n;
  counts = λ c v h. record { holds = h; stays = λ s m. m };
  makes = grind (arith, in_left);
  calls = λ s v h m. record { holds = h; stays = λ u m. m };
  equates = λ a b v h m n. by_equating (λ w. OnwardMade v.demands w.demands) a b v (no_step MakesEqual IsMade v.demands h) (grind (arith, in_either));
  asks = λ s c v f h m. record { holds = h; stays = λ u n. n };
  asks_all = λ s v h m. asking_all_on (unwraps s) v h;
  asks_call = λ t s v flags e f c n h m. record { onward = record { holds = h; stays = λ u q. q }; site = inl n };
  iterates_extractor = λ t s v flags b e f c n h m. record { onward = record { holds = h; stays = λ u q. q }; site = inl n };
  iterates_constructor = λ t i ss v flags b e f n m h. record { holds = h; stays = λ u m. m };
}

shown : (d : Demands) (s : SiteTerm) → IsMade d s → Contains d.made s ⊎ (s ≡ no_site)
shown d s m = elim m [ inl i ↦ inl (contains_from_in d.made s i) | inr e ↦ inr e ]

pub visits_make_lem : (p : Program) (r : TypedRule) (a b : SiteTerm) → Contains (demands_of p r).equalities (a, b)
    → (Contains (demands_of p r).made a ⊎ (a ≡ no_site)) × (Contains (demands_of p r).made b ⊎ (b ≡ no_site))
visits_make_lem p r a b i =
    let d = demands_of p r in
    let m = (rule_given p MakesEqual IsMade (equal_kept p) r (λ e j. absurd j)).0 (a, b) (in_from_contains d.equalities (a, b) i) in
    (shown d a m.0, shown d b m.1)
