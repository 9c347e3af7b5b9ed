-- What evaluation looks things up in, as the model has it.
use Rattle.std.specs.Prelude.{List}
use Rattle.laws_specs.specs.Specs as L
use Rattle.model.specs.lists.Tables.{TypeEntry}
use Rattle.model_questions.specs.Evaluated as E
use Rattle.core_types.specs.TypeViews.{type_views}
use Rattle.spec_cases.specs.declared.tables.Tables.{Tables}
use Rattle.spec_cases.specs.Namings.{Naming}
use Rattle.spec_cases.specs.Places.{known_of}
use Rattle.spec_cases.specs.Sorts.{specs_of}

abbrev pub types_in : Tables → List TypeEntry
types_in t = type_views t.types.now

abbrev pub specs_in : Tables → L.Specs
specs_in t = specs_of t.sorts.now t.functions.now

abbrev pub known_in : Naming → Tables → E.Known
known_in v t = known_of v t.known.now
