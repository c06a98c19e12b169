-- What goes over a link, and which times a clock gives, one call after the other.
use Rattle.std.proofs.Common.{◌≡◌, ℕ, ◌≤◌, ◌⊎◌, inl, inr, Option, Some, None, Result, Ok, Err, List, [], ◌∷◌, ◌++◌, length, drop, refl, sym, ap, ◌∙◌, subst, arith, append_assoc}
use Rattle.std.proofs.lemmas.List.{append-nil}
use Rattle.outside.specs.declared.link.LinkItem.{LinkItem}
use Rattle.outside.specs.declared.link.LinkItem.TheVariants as item
use Rattle.outside.specs.declared.link.LinkOut.{LinkOut}
use Rattle.outside.specs.declared.link.LinkIn.{LinkIn}
use Rattle.outside.specs.declared.link.LinkIn.TheVariants as answer
use Rattle.outside.specs.declared.link.Sent.{Sent}
use Rattle.outside.specs.declared.link.Sent.TheVariants as sent
use Rattle.outside.specs.Ends.{Rose}
use Rattle.outside.specs.Links as links
use Rattle.outside.specs.Links.{giving, next_item, Sends}
use Rattle.connection_server.specs.Talks.{LinkView, Talks, Tells, Gives, Gave}
use Rattle.connection_server.specs.Parts.{Loses, Receives}

gives_then : (items left rest : List LinkItem) (xs ys : List LinkItem) → Gives items xs left → Gives left ys rest → Gives items (xs ++ ys) rest
gives_then items left rest [] ys a b = subst (λ l. Gives l ys rest) a b
gives_then items left rest (x ∷ xs) ys a b = (a.0, gives_then (drop 1 items) left rest xs ys a.1 b)

pub talks_then : (k l m : LinkView) (xs ys : List LinkItem) (os ps : List LinkOut) → Talks k l xs os → Talks l m ys ps → Talks k m (xs ++ ys) (os ++ ps)
talks_then k l m xs ys os ps a b = record {
  coming = λ items told. let one = a.coming items told in let two = b.coming one.left one.told in
      record { left = two.left; told = two.told; gives = gives_then items one.left two.left xs ys one.gives two.gives };
  sent = λ before told. b.sent (before ++ os) (a.sent before told) ∙ ap Some (append_assoc before os ps);
  later = omega (arith, a.later, b.later);
}

pub talks_nothing : (k : LinkView) → Talks k k [] []
talks_nothing k = record {
  coming = λ items told. record { left = items; told = told; gives = refl };
  sent = λ before told. told ∙ ap Some (sym (append-nil before));
  later = omega arith;
}

pub tells_then : (s t u : List ℕ → Type 0) (xs ys : List ℕ) → Tells s t xs → Tells t u ys → Tells s u (xs ++ ys)
tells_then s t u xs ys a b = λ before told. subst u (append_assoc before xs ys) (b (before ++ xs) (a before told))

pub tells_nothing : (t : List ℕ → Type 0) → Tells t t []
tells_nothing t = λ before told. subst t (sym (append-nil before)) told

-- ---- sending

sent_by : Sent → LinkOut → List LinkOut
sent_by sent.Done out = out ∷ []
sent_by sent.Failed out = []
sent_by sent.NoMemory out = []

sends_told : (before : List LinkOut) (after : Option (List LinkOut)) (r : Sent) (out : LinkOut) → Sends (Some before) after r out → after ≡ Some (before ++ sent_by r out)
unfolding sent_by
sends_told before after sent.Done out s = s
sends_told before after sent.Failed out s = s ∙ ap Some (sym (append-nil before))
sends_told before after sent.NoMemory out s = s ∙ ap Some (sym (append-nil before))

talks_by : (k k' : LinkView) (r : Sent) (out : LinkOut) → k'.coming ≡ k.coming → Sends k.sent k'.sent r out → k.faults ≤ k'.faults → Talks k k' [] (sent_by r out)
talks_by k k' r out coming sends later = record {
  coming = λ items told. record { left = items; told = coming ∙ told; gives = refl };
  sent = λ before told. sends_told before k'.sent r out (subst (λ (b : Option (List LinkOut)). Sends b k'.sent r out) told sends);
  later = later;
}

-- a thing was sent, or it wasn't
pub talks_sent : (k k' : LinkView) (out : LinkOut) → k'.coming ≡ k.coming → Sends k.sent k'.sent sent.Done out → k.faults ≤ k'.faults → Talks k k' [] (out ∷ [])
unfolding sent_by
talks_sent k k' out coming sends later = talks_by k k' sent.Done out coming sends later

pub talks_unsent : (k k' : LinkView) (out : LinkOut) → k'.coming ≡ k.coming → Sends k.sent k'.sent sent.Failed out → k.faults ≤ k'.faults → Talks k k' [] []
unfolding sent_by
talks_unsent k k' out coming sends later = talks_by k k' sent.Failed out coming sends later

pub talks_refused : (k k' : LinkView) (out : LinkOut) → k'.coming ≡ k.coming → Sends k.sent k'.sent sent.NoMemory out → k.faults ≤ k'.faults → Talks k k' [] []
unfolding sent_by
talks_refused k k' out coming sends later = talks_by k k' sent.NoMemory out coming sends later

-- ---- receiving

gave_one : (items : List LinkItem) (coming : Option (List LinkItem)) (g : LinkItem) → g ≡ next_item items → coming ≡ Some (drop 1 items) → Gave items (g ∷ []) coming
gave_one items coming g is told = record { left = drop 1 items; told = told; gives = (is, refl) }

gave_nothing : (items : List LinkItem) (coming : Option (List LinkItem)) → coming ≡ Some items → Gave items [] coming
gave_nothing items coming told = record { left = items; told = told; gives = refl }

-- an answer that gives an item gives that one
same_item : (g h : LinkItem) → giving g ≡ giving h → g ≡ h
same_item (item.Text t) (item.Text u) e = cc
same_item (item.Text t) item.Binary e = cc
same_item (item.Text t) item.Idle e = cc
same_item (item.Text t) item.PeerClosed e = cc
same_item item.Binary (item.Text u) e = cc
same_item item.Binary item.Binary e = refl
same_item item.Binary item.Idle e = cc
same_item item.Binary item.PeerClosed e = cc
same_item item.Idle (item.Text u) e = cc
same_item item.Idle item.Binary e = cc
same_item item.Idle item.Idle e = refl
same_item item.Idle item.PeerClosed e = cc
same_item item.PeerClosed (item.Text u) e = cc
same_item item.PeerClosed item.Binary e = cc
same_item item.PeerClosed item.Idle e = cc
same_item item.PeerClosed item.PeerClosed e = refl

gave_item : (items : List LinkItem) (coming : Option (List LinkItem)) (g : LinkItem) → links.Receives (Some items) coming (giving g) → Gave items (g ∷ []) coming
gave_item items coming (item.Text t) r = gave_one items coming (item.Text t) (same_item (item.Text t) (next_item items) r.0) r.1
gave_item items coming item.Binary r = gave_one items coming item.Binary (same_item item.Binary (next_item items) r.0) r.1
gave_item items coming item.Idle r = gave_one items coming item.Idle (same_item item.Idle (next_item items) r.0) r.1
gave_item items coming item.PeerClosed r = gave_one items coming item.PeerClosed (same_item item.PeerClosed (next_item items) r.0) r.1

talks_given : (k k' : LinkView) (g : LinkItem) → links.Receives k.coming k'.coming (giving g) → k'.sent ≡ k.sent → k.faults ≤ k'.faults → Talks k k' (g ∷ []) []
talks_given k k' g receives sent later = record {
  coming = λ items told. gave_item items k'.coming g (subst (λ (b : Option (List LinkItem)). links.Receives b k'.coming (giving g)) told receives);
  sent = λ before told. sent ∙ told ∙ ap Some (sym (append-nil before));
  later = later;
}

talks_failed : (k k' : LinkView) → links.Receives k.coming k'.coming answer.Failed → k'.sent ≡ k.sent → k.faults ≤ k'.faults → Talks k k' [] []
talks_failed k k' receives sent later = record {
  coming = λ items told. gave_nothing items k'.coming (subst (λ (b : Option (List LinkItem)). links.Receives b k'.coming answer.Failed) told receives);
  sent = λ before told. sent ∙ told ∙ ap Some (sym (append-nil before));
  later = later;
}

lost_at : (coming coming' : Option (List LinkItem)) → links.Receives coming coming' answer.NoMemory → (given : List LinkItem) × (length given ≤ 1) × ((items : List LinkItem) → coming ≡ Some items → Gave items given coming')
lost_at None coming' r = ([], omega arith, λ items told. absurd (cc))
lost_at (Some items) coming' (inl same) = ([], omega arith, λ items' told. gave_nothing items' coming' (same ∙ told))
lost_at (Some items) coming' (inr taken) = (next_item items ∷ [], omega arith, λ items' told. let same : items ≡ items' = cc in gave_one items' coming' (next_item items) (ap next_item same) (taken ∙ ap (λ (l : List LinkItem). Some (drop 1 l)) same))

talks_lost : (k k' : LinkView) → links.Receives k.coming k'.coming answer.NoMemory → k'.sent ≡ k.sent → k.faults ≤ k'.faults → Loses k k'
talks_lost k k' receives sent later = let lost = lost_at k.coming k'.coming receives in record {
  given = lost.0;
  few = lost.1;
  talks = record {
    coming = lost.2;
    sent = λ before told. sent ∙ told ∙ ap Some (sym (append-nil before));
    later = later;
  };
}

pub receives_by : (k k' : LinkView) (r : LinkIn) → links.Receives k.coming k'.coming r → k'.sent ≡ k.sent → k.faults ≤ k'.faults → (r ≡ answer.Failed → Rose k.faults k'.faults) → Receives k k' r
receives_by k k' (answer.Text t) receives sent later failed = talks_given k k' (item.Text t) receives sent later
receives_by k k' answer.Binary receives sent later failed = talks_given k k' item.Binary receives sent later
receives_by k k' answer.Idle receives sent later failed = talks_given k k' item.Idle receives sent later
receives_by k k' answer.PeerClosed receives sent later failed = talks_given k k' item.PeerClosed receives sent later
receives_by k k' answer.Failed receives sent later failed = (talks_failed k k' receives sent later, failed refl)
receives_by k k' answer.NoMemory receives sent later failed = talks_lost k k' receives sent later
