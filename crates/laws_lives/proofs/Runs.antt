-- Runs: what each event keeps is kept by any number of them.
use Rattle.std.proofs.Common.{◌++◌, List, [], ◌∷◌, sym, subst}
use Rattle.shore_model.specs.declared.histories.Opening.{Opening}
use Rattle.shore_model.specs.declared.histories.Entry.{Entry}
use Rattle.laws_lives.proofs.SessionsAgree.{event_agrees, open_agrees}
use Rattle.laws_lives.proofs.Steps.{event_stays_sound, open_is_sound}
use Rattle.laws_lives.specs.SessionSteps.{SessionEvent, entries_by}
use Rattle.laws_lives.specs.Sessions.{Sessions}
use Rattle.laws_lives.specs.Soundness.{IsJustOpened, IsSoundAfter, RunsTo, SessionsAgree}

pub events_stay_sound : (o : Opening) (es : List Entry) (s : Sessions) (events : List SessionEvent) (last : Sessions) (made : List Entry)
    → IsSoundAfter o es s → SessionsAgree o es s → RunsTo s events es last made → IsSoundAfter o made last × SessionsAgree o made last
events_stay_sound o es s [] last made k agree moves =
    (subst (λ es. IsSoundAfter o es last) (sym moves.1) (subst (IsSoundAfter o es) (sym moves.0) k), subst (λ es. SessionsAgree o es last) (sym moves.1) (subst (SessionsAgree o es) (sym moves.0) agree))
events_stay_sound o es s (e ∷ events) last made k agree moves =
    events_stay_sound o (es ++ entries_by s e) moves.0 events last made (event_stays_sound o es s moves.0 e k agree moves.1) (event_agrees o es s moves.0 e k agree moves.1) moves.2

pub run_from_open : (o : Opening) (s : Sessions) (events : List SessionEvent) (last : Sessions) (made : List Entry) → IsJustOpened o s
    → RunsTo s events [] last made → IsSoundAfter o made last × SessionsAgree o made last
run_from_open o s events last made opened moves = events_stay_sound o [] s events last made (open_is_sound o s opened) (open_agrees o s opened) moves
