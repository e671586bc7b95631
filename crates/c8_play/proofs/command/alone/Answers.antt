-- The report of a game alone is that of the serial run of the keys that were held.
use Rattle.c8_play.proofs.command.alone.Goals as goal

pub returns : goal.returns
returns g c = λ done.
    let p = c.play_alone-played.ensures.played in
    (c.in-Ok.game, p.rows, c.play_alone-played.result, p.frames, p.machine, c.in_ok-write_report.ensures)
