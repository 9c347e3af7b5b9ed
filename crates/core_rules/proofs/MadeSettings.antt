-- The setting in which each term has a constructor.
use Rattle.std.proofs.Common.{◌≡◌, ℕ, ◌&&◌, Bool, true, false, cond, List, [], ◌∷◌, filter, map, Option, None, option_map, is_some, refl, ap, ◌∙◌, arith}
use Rattle.std.specs.Bool.{◌==◌}
use Rattle.std.proofs.lemmas.Bool.{and_parts, eqb-true}
use Rattle.std.proofs.lemmas.Option.{slice_get-map}
use Rattle.model.specs.rules.Meaning.{look}
use Rattle.model.specs.lists.Tables.{TermKindEntry, TermEntry}
use Rattle.model.specs.lists.Setting.{Setting, Scope, entry_named, term_of, has_constructor, expr_converter}
use Rattle.laws_errors.specs.AllMade.{made_kind, made_entry, all_made}

constructed : (k : TermKindEntry) → has_constructor (made_kind k) ≡ true
constructed k = grind arith

named_made : (name : ℕ) (ts : List TermEntry) → entry_named name (map made_entry ts) ≡ option_map made_entry (entry_named name ts)
named_made name [] = refl
named_made name (t ∷ ts) = grind (arith, named_made name ts)

pub term_made : (e : Setting) (s : Scope) (x : List ℕ) (o : Option TermEntry) → term_of e s x ≡ o → term_of (all_made e) s x ≡ option_map made_entry o
term_made e s x o h = named_made _ e.terms ∙ ap (option_map made_entry) h

-- of entries with a key, those are kept whose key passes a test
module _ (p : ℕ → ℕ → Bool) (i o : ℕ) where
  abbrev is_pair : ℕ × ℕ → Bool
  is_pair k = (k.0 == i) && (k.1 == o)

  same_pair : (k : ℕ × ℕ) → is_pair k ≡ true → p k.0 k.1 ≡ p i o
  same_pair k h = let b = and_parts (k.0 == i) (k.1 == o) h in ap (λ j. p j k.1) (eqb-true k.0 i b.0) ∙ ap (p i) (eqb-true k.1 o b.1)

  kept : (cs : List ((ℕ × ℕ) × ℕ)) → look is_pair (filter (λ c. p c.0.0 c.0.1) cs) ≡ cond (p i o) (look is_pair cs) None
  kept [] = elim (p i o) as (λ b. ◌≡◌ {A = Option ℕ} None (cond b None None)) [ true ↦ refl | false ↦ refl ]
  kept (c ∷ cs) = grind (arith, kept cs, same_pair)

pub converter_made : (e : Setting) (i o : ℕ) (own : Option TermEntry) → expr_converter e i o ≡ own → expr_converter (all_made e) i o ≡ option_map made_entry own
converter_made e i o own h = grind (arith, kept (λ j k. is_some (expr_converter e j k)) i o e.converters, constructed, slice_get-map made_entry e.terms)
