-- The parts of what a plan gives: the rows of its root, in order and cut, and their outcome.
use Rattle.std.proofs.Common.{◌≡◌, ◌∙◌, ℕ, List, [], ◌∷◌, take, ap₂, Option, refl, ap}
use Rattle.scalar_val.specs.Joined.{Text}
use Rattle.data_model.specs.Rows.{Rows, Database}
use Rattle.plan_model.specs.declared.filter.Binding.{Binding}
use Rattle.plan_model.specs.declared.plan.Plan.{Plan}
use Rattle.plan_model.specs.Taken.{Extent, All, First, Next, cut, arranged, trimmed, taken}
use Rattle.plan_model.specs.Planned.{any_row, planned, outcome_from, extent, wanted}

pub cut_parts : (e : Extent) (cap : Option ℕ) (rows : Rows) → trimmed e cap (arranged e rows) ≡ cut e cap rows
cut_parts (All orders offset limit) cap rows = refl
cut_parts First cap rows = refl
cut_parts (Next column descending batch) cap rows = refl

-- what is taken of rows in order, and of the first one
pub all_cut : (e : Extent) (cap : Option ℕ) (found rows all : Rows)
    → found ≡ arranged e rows → rows ≡ all → trimmed e cap found ≡ cut e cap all
all_cut e cap found rows all sorted same =
    ap (trimmed e cap) (sorted ∙ ap (arranged e) same) ∙ cut_parts e cap all

take_once : (rows : Rows) → take 1 (take 1 rows) ≡ take 1 rows
take_once [] = refl
take_once (r ∷ rs) = refl

pub first_cut : (e : Extent) (cap : Option ℕ) (found all : Rows)
    → e ≡ First → found ≡ take 1 all → trimmed e cap found ≡ cut e cap all
first_cut e cap found all is same = rw (is) (ap (take 1) same ∙ take_once all)

-- the outcome of the rows that the root takes
pub planned_from : (p : Plan) (b : Binding) (db : Database) (names : List Text) (rows found : Rows)
    → names ≡ p.names → rows ≡ trimmed (extent b p.root) p.root.cap found
    → trimmed (extent b p.root) p.root.cap found ≡ taken db (wanted b any_row p.root)
    → outcome_from names b db p rows ≡ planned p b db
planned_from p b db names rows found same cut_is found_is =
    ap₂ (λ (n : List Text) (r : Rows). outcome_from n b db p r) same (cut_is ∙ found_is)
