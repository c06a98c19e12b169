use Rattle.std.proofs.Common.{◌≡◌, ◌∙◌, ℕ, List, ap, sym, subst, rules}
use Rattle.std.specs.List.{Contains, filter}
use Rattle.std.proofs.lemmas.Fn.{filter_same}
use Rattle.place_list.specs.Places.{Places}
use Rattle.cohort_map.specs.Polled.{is_of_at}
use Rattle.cohort_map.proofs.Listing.{in_filter}
use Rattle.cohort_map.proofs.polled.settle.Goals as goal

pub returns-then-note_stale : goal.returns-then-note_stale
returns-then-note_stale c =
    let test = is_of_at c.args.keys.now c.args.poller.now c.args.seats.now in
    let kept : c.retain.new.self.places ≡ filter test c.note_stale.new.self.places =
    filter_same _ _ _ (λ x b f' k. search rules) _ _ c.retain.ensures.places in
    let before : c.note_stale.new.self.places ≡ c.args.list.now.places = ap (λ (l : Places). l.places) c.note_stale.ensures in
    record {
      keeps = λ p has belongs. subst (λ (ps : List ℕ). Contains ps p) (sym (kept ∙ ap (filter test) before))
          (in_filter test c.args.list.now.places p has belongs);
      complete = c.retain.ensures.complete ∙ ap (λ (l : Places). l.complete) c.note_stale.ensures;
    }
