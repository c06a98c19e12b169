-- A connection that is served over the link that it opened as.
use Rattle.std.proofs.Common.{◌≡◌, sym, subst, ℕ, ◌≤◌, ◌⊎◌, Option, Some, List, length}
use Rattle.outside.specs.declared.link.LinkItem.{LinkItem}
use Rattle.outside.specs.declared.link.LinkOut.{LinkOut}
use Rattle.outside.specs.Openings as openings
use Rattle.role_model.specs.declared.metadata.Metadata.{Metadata}
use Rattle.machine.specs.State.{Event}
use Rattle.history_lock.specs.PassViews.{PassView}
use Rattle.connection_server.specs.declared.end.End.{End}
use Rattle.connection_server.specs.Talks.{LinkView, link_view}
use Rattle.connection_server.specs.Sessions.{Refused, Session, Served}
use Rattle.subs_server.specs.declared.task.PortEnd.{PortEnd}
use Rattle.subs_server.specs.declared.task.Task.{Task}
use Rattle.subs_server.specs.declared.task.Task.TheVariants as task
use Rattle.subs_server.specs.declared.task.TaskEnd.TheVariants as ended
use Rattle.subs_server.specs.Ports.{ServesPort}
use Rattle.subs_server.specs.Works.{Suits}

tells_same : {T : Type 0} (before after : Option T) → openings.Tells before after → (told : T) → before ≡ Some told → after ≡ Some told
tells_same before after tells told is = subst (λ o. openings.Tells o after) is tells

pub served_from : (conn : ℕ) (p q : PassView Event Metadata) (coming : Option (List LinkItem)) (sent : Option (List LinkOut)) (faults : ℕ) (k k' : LinkView) (t t' : List ℕ → Type 0) (e : End)
    → openings.Tells coming k.coming → openings.Tells sent k.sent → k.faults ≡ faults → Served conn p q k k' t t' e
    → Served conn p q (link_view coming sent faults) k' t t' e
served_from conn p q coming sent faults k k' t t' e items things count s = record {
  made = s.made;
  given = s.given;
  outs = s.outs;
  times = s.times;
  did = s.did;
  talks = record {
    coming = λ all told. s.talks.coming all (tells_same coming k.coming items all told);
    sent = λ before told. s.talks.sent before (tells_same sent k.sent things before told);
    later = subst (λ n. n ≤ k'.faults) count s.talks.later;
  };
  tells = s.tells;
  session = subst
      (λ (n : ℕ). Refused conn (length q.seen) e s.made s.given s.outs s.times
      ⊎ Session conn (length q.seen) n k'.faults e s.made s.given s.outs s.times) count s.session;
}

-- a task of the commit port was done as its listener was served
pub port_suits : {N C K Q G X : Type 0} (S : Type 0) (conn_seen : N → LinkView) (link_seen : K → LinkView)
    (tells : C → List ℕ → Type 0) (left written : X → Option (List ℕ)) (never_fails : X → Type 0)
    (coming : Q → Option (List X)) (faults : Q → ℕ) (p q : PassView Event Metadata) (t : Task N Q C G) (from from' : Q)
    (e : PortEnd) → t ≡ task.Commits from
    → ServesPort left written never_fails (coming from) (coming from') (faults from) (faults from') p q e
    → Suits conn_seen link_seen tells {S = S}
    (λ (a b : Q) (r s : PassView Event Metadata) (end : PortEnd). ServesPort left written never_fails (coming a) (coming b) (faults a) (faults b) r s end)
    p q t (ended.Commits from' e)
port_suits {N} {C} {K} {Q} {G} {X} S conn_seen link_seen tells left written never_fails coming faults p q t from from' e is s = subst
    (λ (given : Task N Q C G). Suits conn_seen link_seen tells {S = S}
    (λ (a b : Q) (r s : PassView Event Metadata) (end : PortEnd). ServesPort left written never_fails (coming a) (coming b) (faults a) (faults b) r s end)
    p q given (ended.Commits from' e)) (sym is) s
