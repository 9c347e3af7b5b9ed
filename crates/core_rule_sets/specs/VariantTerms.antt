-- What is asked of who looks up variants' terms.
use Rattle.std.specs.Prelude.{ℕ, List, Option, IsSome}
use Rattle.model.specs.claims.Questions.{term_of_variant, variant_by_id}
use Rattle.model.specs.lists.Tables.{TypeEntry}
use Rattle.model.specs.sites.Sites.{Site, make_variant_site}

-- a variant that a site makes is one of these types', and its name is a term's
abbrev pub HasTermIfMade : List TypeEntry → (ℕ → Option ℕ) → Site → Type 0
HasTermIfMade types term_of (make_variant_site ty variant fields) =
    IsSome (variant_by_id types ty variant) × IsSome (term_of_variant types term_of ty variant)
HasTermIfMade types term_of _ = Unit {0}
