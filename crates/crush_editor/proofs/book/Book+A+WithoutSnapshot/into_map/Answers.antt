use Rattle.std.proofs.Common.{◌∙◌, ap}
use Rattle.crush_editor.proofs.book.Book+A+WithoutSnapshot.into_map.Goals as goal

pub returns : goal.returns
returns g c =
    let none = ap (λ b. b.history) c.self.view_is ∙ c.requires in
    c.self.invariant.parted none ∙ ap (λ b. b.opening) c.self.view_is
