use Rattle.std.proofs.Common.{sym, subst}
use Rattle.laws_lives.proofs.Replies.{leaves_all}
use Rattle.laws_lives.proofs.Views.{one_writes}
use Rattle.laws_lives.specs.UndoLists.{in_place_after}
use Rattle.laws_lives.specs.Views.{Sees}
use Rattle.laws_lives.proofs.sessions.replies_keep_views.Goals as goal

pub returns : goal.returns
returns d most held now R ts before later t es undo c reply k among is right u may h same own =
    let it = leaves_all most held now R t es undo u right (before t) (k.each t among) is c reply may h in (
      one_writes k t among (in_place_after R undo c reply) later same it.changes
          (subst (Sees held now (in_place_after R undo c reply) t) (sym own) it.sees),
      it.right,
      it.undoes,
    )
