-- What looking at the kind of one term, and changing it, comes to.
use Rattle.std.proofs.Common.{◌≡◌, ℕ, Bool, true, false, not, List, get_or, Some, sym, ap, subst, ◌∙◌, inl, inr, arith}
use Rattle.std.proofs.Math.ListN.{set}
use Rattle.std.proofs.lemmas.Grind.{common_steps}
use Rattle.model.specs.lists.Syntax.{Name}
use Rattle.model.specs.lists.Tables.{TermKindEntry}
use Rattle.core_syntax.specs.declared.syntax.Error.{Error}
use Rattle.core_types.specs.declared.type_env.TypeEnv.{TypeEnv}
use Rattle.core_types.specs.Envs.{symbol_of}
use Rattle.core_types.specs.VariantReading.{ReportsIf}
use Rattle.core_terms.specs.declared.term.Term.{Term}
use Rattle.core_terms.specs.declared.term_table.TermTable.{TermTable}
use Rattle.core_terms.specs.TermViews.{term_view}
use Rattle.core_terms.specs.Reading.{IsWithin, term_of_name}
use Rattle.core_terms.specs.Externing.{with_kind, ReadsKind}
use Rattle.core_terms.proofs.Changing.{changes_one, view_at}
use Rattle.core_terms.proofs.Rooting.{is_within}

-- the term t of a name, of which b says whether its kind passes a test
module _ (p : TermKindEntry → Bool) (g : TermKindEntry → TermKindEntry) (n : Name) (env : TypeEnv) (old : TermTable) (es es' : List Error) (within : IsWithin old) (id : ℕ) (found : Some id ≡ term_of_name env old n) (t : Term) (this : t ≡ get_or old.terms.items id t) (b : Bool) (free : b ≡ p (term_view t).kind) (noted : ReportsIf (not b) es es') where
  pub kind_refused : b ≡ false → ReadsKind p g n env old es old es'
  kind_refused taken =
      inr (
        subst (λ c. ReportsIf (not c) es es') taken noted,
        inr (record { id = id; found = sym found; entry = term_view t; at = view_at old.terms.items id t t (is_within old within (symbol_of env n.text) id found) this; fails = sym free ∙ taken }),
      )

  pub kind_changed : (new : TermTable) (u d : Term) → new.terms.items ≡ set old.terms.items id u → new.term_map ≡ old.term_map → new.converters ≡ old.converters
      → d ≡ get_or old.terms.items id d → term_view u ≡ with_kind g (term_view d) → b ≡ true → ReadsKind p g n env old es new es'
  kind_changed new u d terms term_map converters again changed passes =
      let inside = is_within old within (symbol_of env n.text) id found in
      inl (
        subst (λ c. ReportsIf (not c) es es') passes noted,
        record {
          id = id;
          found = sym found;
          entry = term_view t;
          at = view_at old.terms.items id t t inside this;
          passes = sym free ∙ passes;
          changes = grind (arith, common_steps, changes_one (with_kind g) old.terms.items id u d inside (changed ∙ ap (λ x. with_kind g (term_view x)) again));
        },
      )
