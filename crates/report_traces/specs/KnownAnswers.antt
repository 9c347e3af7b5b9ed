-- What known answers are, as functions.
use Rattle.std.specs.Prelude.{ℕ, Bool, ◌==◌, ◌&&◌, if◌then◌else◌, List, [], ◌∷◌, Option, Some, None, option_map, slice_get}
use Rattle.model.specs.rules.Values.{Value, of_struct, value_eq}
use Rattle.model.specs.rules.Meaning.{Content, nothing, TotalMeaning}
use Rattle.run_terms.specs.ValueViews.{content_view, value_view}
use Rattle.run_terms.specs.declared.values.Content as C
use Rattle.report_traces.specs.Echoes.{as_written, named_value}
use Rattle.report_traces.specs.declared.known.Known as K

-- the first answer to a call
abbrev pub known_in : List K.Known → ℕ → Value → Option Content
known_in [] term key = None
known_in (k ∷ rest) term key =
    if (k.term.0 == term) && value_eq (value_view k.key) key then Some (content_view k.content) else known_in rest term key

-- nothing where there is none
abbrev pub or_nothing : Option Content → Content
or_nothing None = nothing
or_nothing (Some c) = c

-- what is answered, by the types of the named constants and the answers that are known
abbrev pub answered : (ℕ → Option ℕ) → (extracted called : List K.Known) → (made : List C.Content) → TotalMeaning
answered constant_types extracted called made = record {
  literals = as_written;
  constants = λ name. named_value (constant_types name) name;
  extractors = λ t v. or_nothing (known_in extracted t v);
  pures = λ t vs. or_nothing (known_in called t (of_struct 0 vs));
  impures = λ t before. or_nothing (option_map content_view (slice_get made before));
}
