-- Visits of rules by hand: what they count and when, which limit is passed first, and what the run of the visitor of sites
-- answers.
use Rattle.std.specs.Prelude.{◌≡◌, ◌∷◌, ◌++◌, [], ℕ, pos, List, None, Some, replicate}
use Rattle.model.specs.lists.Tables.{variant_term}
use Rattle.model.specs.rules.Program.{Program}
use Rattle.model.specs.rules.Typed.{TypedPattern, TypedRule, make_int, match_any, match_term}
use Rattle.model.specs.sites.Limits.{arguments_limit, fields_limit, passed_in_visit}
use Rattle.model.specs.sites.Sites.{SiteTerm, int_term}
use Rattle.model.specs.visits.Demands.{Visit, argument_taken, demands_of, fields_matched}
use Rattle.model.specs.visits.SiteVisitor.{SiteRun}
use Rattle.laws_examples.specs.TypedForms.{bind_any, builtins, by_rules, entry, no_flags, own, q_list, typed, u8}

-- (type T (enum (A (x u8) ..))) with n fields, and (decl f (..) u8) of these arguments
abbrev pub f_beside : ℕ → List ℕ → Program
f_beside n args = record {
  types = builtins;
  constants = [];
  terms = entry 0 0 14 (replicate n u8) own (variant_term 0) ∷ entry 1 1 15 args u8 (by_rules no_flags) ∷ [];
  rules = [];
}

-- (T.A _ ..), with n fields
abbrev pub with_fields : ℕ → TypedPattern
with_fields n = match_term own 0 (q_list (replicate n (match_any u8)))

abbrev pub giving_one : List TypedPattern → TypedRule
giving_one args = typed 0 1 1 (pos 0) None [] args (make_int u8 (pos 1))

-- (rule (f (T.A _ _) x) 1)
abbrev pub f_of_pair : Program
f_of_pair = f_beside 2 (own ∷ u8 ∷ [])

abbrev pub pair_rule : TypedRule
pair_rule = giving_one (with_fields 2 ∷ bind_any u8 0 ∷ [])

-- argument 0 is counted before any site is made, its two fields after that site, argument 1 after these three
abbrev pub VisitsCount : Type 0
VisitsCount = (demands_of f_of_pair pair_rule).counted ≡ (argument_taken 0, 0) ∷ (fields_matched 2, 1) ∷ (argument_taken 1, 3) ∷ []

-- of a rule that passes two limits the one that the visit comes to is first: 256 fields in argument 0, after one site, or
-- argument 256, after 256 sites and before its fields; 255 fields pass none
abbrev pub LimitsAreMetInOrder : Type 0
LimitsAreMetInOrder =
    (passed_in_visit (f_beside 256 []) (giving_one (with_fields 256 ∷ replicate 256 (match_any u8))) ≡ Some (fields_limit, 1))
    × (passed_in_visit (f_beside 256 []) (giving_one (replicate 256 (match_any u8) ++ with_fields 256 ∷ [])) ≡ Some (arguments_limit, 256))
    × (passed_in_visit (f_beside 255 []) (giving_one (with_fields 255 ∷ [])) ≡ None)

-- the run answers the site of 1, and no other
abbrev pub RunsAnswerOneSite : Type 0
RunsAnswerOneSite =
    ((v : Visit) × SiteRun f_of_pair.terms pair_rule (int_term (pos 1) u8) v)
    × ((s : SiteTerm) (v : Visit) → SiteRun f_of_pair.terms pair_rule s v → s ≡ int_term (pos 1) u8)
