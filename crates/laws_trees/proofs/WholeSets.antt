-- The rules of built sets ask all that follows from what the source rules demand, by the numbers of the set.
use Rattle.std.proofs.Common.{◌≡◌, ◌≢◌, ap, subst, ℕ, ◌<◌, length, Contains}
use Rattle.std.specs.Prelude.{IsTrue}
use Rattle.model.specs.rules.Typed.{TypedRule}
use Rattle.model.specs.rules.Program.{Program}
use Rattle.model.specs.sites.Sites.{Constraint, SiteSet, SiteTerm, unfold_site}
use Rattle.model.specs.visits.Demands.{Demands, demands_of}
use Rattle.model.specs.sites.Closure.{HasConstraint, IsClosedEquality, ClosedIsWhole}
use Rattle.model.specs.sites.Overlap.{built_rules}
use Rattle.model.specs.trees.Places.{joins_in}
use Rattle.model.specs.claims.Layers.{own_program}
use Rattle.model.proofs.Elements.{contains_from_in, in_slice}
use Rattle.laws_typing.proofs.WellTypedRules.{read_programs_are_well_typed}
use Rattle.laws_sites.specs.BuiltLaws.{BuiltDemandsAreWhole}
use Rattle.laws_sites.proofs.built.BuiltGates.{stands_for}
use Rattle.laws_sites.proofs.built.BuiltSets.{BuiltSet, RuleOfSet}
use Rattle.laws_sites.proofs.built.DistinctSites.{one_number}
use Rattle.laws_trees.proofs.headline.Places.{Pair, of_set_rule, of_typed_rule, typed_here}
use Rattle.laws_trees.specs.WholeDemands.{AsksAt, JoinsAt, AsksWhatFollows, AcceptedSetsAreWhole}

-- a rule of a built set, where the closed demands of the rule that it stands for are whole
module _ (b : BuiltSet) (x : RuleOfSet b) (whole : ClosedIsWhole (demands_of b.program x.typed.rule) x.typed.demands) where
  abbrev p : Program
  p = b.program

  abbrev t : ℕ
  t = b.term

  abbrev set : SiteSet
  set = b.set

  abbrev tree_of : ℕ → SiteTerm
  tree_of s = unfold_site set.sites s

  abbrev d : Demands
  d = demands_of p x.typed.rule

  number_there : (s : ℕ) (c : Constraint) → s < length set.sites → HasConstraint d (tree_of s) c → Contains x.rule.constraints (s, c)
  number_there s c lt has =
      let k = x.is.constraints.all_asked (tree_of s) c ((whole.constraints (tree_of s) c).1 has) in
      subst (λ n. Contains x.rule.constraints (n, c)) (one_number p t set b.built k.0 s (x.is.constraints.asked k.0 c k.1).0 lt k.2) k.1

  classes_there : (a b' : ℕ) → a < length set.sites → b' < length set.sites → IsClosedEquality d (tree_of a) (tree_of b') → (a ≢ b') × IsTrue (joins_in x.rule.classes a b')
  classes_there a b' la lb e =
      let w = (whole.equalities (tree_of a) (tree_of b')).1 e in
      let k = x.is.classes.all_joined w.1.0 (tree_of a) (tree_of b') w.1.1 w.1.2 w.1.3 in
      let j = x.is.classes.joined k.0 k.1 k.2 in
      let one : k.0 ≡ a = one_number p t set b.built k.0 a j.0 la k.3 in
      let other : k.1 ≡ b' = one_number p t set b.built k.1 b' j.1 lb k.4 in (
        λ same. w.0 (ap tree_of same),
        subst (λ n. IsTrue (joins_in x.rule.classes n b')) one (subst (λ n. IsTrue (joins_in x.rule.classes k.0 n)) other k.2),
      )

  classes_follow : (a b' : ℕ) → (a ≢ b') × IsTrue (joins_in x.rule.classes a b') → (a < length set.sites) × (b' < length set.sites) × IsClosedEquality d (tree_of a) (tree_of b')
  classes_follow a b' h =
      let j = x.is.classes.joined a b' h.1 in
      (j.0, j.1, (whole.equalities (tree_of a) (tree_of b')).0 (λ same. h.0 (one_number p t set b.built a b' j.0 j.1 same), (j.2, j.3, j.4, j.5)))

  asks_at : (u : SiteTerm) (c : Constraint) → HasConstraint d u c → AsksAt set.sites x.rule u c
  asks_at u c has =
      let k = x.is.constraints.all_asked u c ((whole.constraints u c).1 has) in
      record { site = k.0; stands = k.2; asked = k.1 }

  joins_at : (u v : SiteTerm) → IsClosedEquality d u v → JoinsAt set.sites x.rule u v
  joins_at u v e =
      let w = (whole.equalities u v).1 e in
      let k = x.is.classes.all_joined w.1.0 u v w.1.1 w.1.2 w.1.3 in
      record {
        first = k.0;
        second = k.1;
        first_stands = k.3;
        second_stands = k.4;
        joined = k.2;
      }

  asks_what_follows : AsksWhatFollows p set.sites x.typed.rule x.rule
  asks_what_follows = record {
    id = x.is.id;
    at = x.is.at;
    constraints = λ s c. (
      λ h. let k = x.is.constraints.asked s c h in (k.0, (whole.constraints (tree_of s) c).0 k.1),
      λ h. number_there s c h.0 h.1,
    );
    classes = λ a b'. (classes_follow a b', λ h. classes_there a b' h.0 h.1 h.2);
    all_constraints = asks_at;
    all_classes = joins_at;
  }

pub accepted_sets_are_whole_lem : BuiltDemandsAreWhole → AcceptedSetsAreWhole
accepted_sets_are_whole_lem law defs expand rules accepted t set built =
    let p = own_program defs rules in
    let s : BuiltSet = record { program = p; term = t; set = set; built = built } in
    let follows : (i : ℕ) (x : Pair p t set i) → AsksWhatFollows p set.sites x.typed.rule x.built = λ i x.
    asks_what_follows s (stands_for s x.typed x.built x.one)
    (law p t (read_programs_are_well_typed accepted.read) x.typed (contains_from_in (built_rules p t) x.typed (in_slice (built_rules p t) i x.typed x.here))) in
    let all = accepted.checkable.built t in
    record {
      each_rule = λ i r h.
          (let x = of_set_rule p t set built i r h in
          record {
            source = x.0.typed.rule;
            here = typed_here p t set built all i x.0;
            asks = subst (AsksWhatFollows p set.sites x.0.typed.rule) x.1 (follows i x.0);
          });
      each_source = λ i q h.
          (let x = of_typed_rule p t set built all i q h in
          record {
            rule = x.0.built;
            here = x.0.there;
            asks = subst (λ (k : TypedRule). AsksWhatFollows p set.sites k x.0.built) x.1 (follows i x.0);
          });
    }
