use Rattle.crush_editor.proofs.editor.Started+A+WithoutSnapshot.without_opening.Given as goal

abbrev pub ghosts-make_gauge : goal.ghosts-make_gauge
ghosts-make_gauge g a = record { map = a.map.now }
