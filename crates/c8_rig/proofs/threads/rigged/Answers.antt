-- Each thread begins with the unused entry of its player and a new disk, so what they return can be joined in order.
use Rattle.std.proofs.Common.{◌≡◌, [], ap, sym, ◌∙◌, subst, length, map, Some, rules}
use Rattle.c8_rig.specs.Tokens.{EntryValue, first_entries}
use Rattle.c8_rig.specs.Rigged.{HasWorked, IsDiskFor}
use Rattle.c8_rig.proofs.Rigging.{first_at, all_played, length_entries, length_peers}
use Rattle.c8_rig.proofs.threads.rigged.Goals as goal

pub map_vec-requires-after_bounds : goal.map_vec-requires-after_bounds
map_vec-requires-after_bounds g c κs within i x few at =
    let jobs = c.in_ok-jobs.jobs.items in
    let is : map (λ job. job.entry) jobs ≡ first_entries g.B.Room.ether g.B.Room.players = c.in_ok-jobs.ensures.entries ∙ c.requires.entries in
    let first = first_at (λ job. job.entry) g.B.Room.ether g.B.Room.players jobs is i x few at in (
      ap (λ (e : EntryValue). e.ether) first,
      ap (λ (e : EntryValue). e.notes) first,
      subst (λ job. IsDiskFor c.args.turns job.disk) (sym at) (c.in_ok-jobs.ensures.disks i x few),
    )

pub together-requires-clause-played : goal.together-requires-clause-played
together-requires-clause-played g c =
    let jobs = c.in_ok-jobs.jobs.items in
    let played = c.in_ok-played.played.items in
    let begins : map (λ job. job.entry) jobs ≡ first_entries g.B.Room.ether g.B.Room.players = c.in_ok-jobs.ensures.entries ∙ c.requires.entries in
    let as_many : length played ≡ length jobs = search rules in
    let are : c.in-Some.entries.items ≡ map (λ one. one.entry) played = search rules in
    let also : map Some c.in-Some.peers.items ≡ map (λ one. one.peer) played = search rules in
    all_played c.args.game.now c.args.turns g.B.Room.ether g.B.Room.players (λ job. job.entry) (λ job. job.disk) (λ one. one.entry)
    (λ one. one.peer) jobs played c.in-Some.entries.items c.in-Some.peers.items begins c.in_ok-jobs.ensures.disks as_many are also
    (λ i r few at.
    let given = (c.in_ok-played.ensures.each i r few).1 in
    (given.job, given.job_read, subst (λ one. HasWorked c.args.game.now given.job.disk given.job.entry one.entry one.peer) (sym at) given.call.met))

pub together-requires-clause-entries : goal.together-requires-clause-entries
together-requires-clause-entries g c =
    let jobs = c.in_ok-jobs.jobs.items in
    let played = c.in_ok-played.played.items in
    let begins : map (λ job. job.entry) jobs ≡ first_entries g.B.Room.ether g.B.Room.players = c.in_ok-jobs.ensures.entries ∙ c.requires.entries in
    let as_many : length played ≡ length jobs = search rules in
    let are : c.in-Some.entries.items ≡ map (λ one. one.entry) played = search rules in
    length_entries g.B.Room.ether g.B.Room.players (λ job. job.entry) jobs (λ one. one.entry) played c.in-Some.entries.items begins as_many are

pub together-requires-clause-peers : goal.together-requires-clause-peers
together-requires-clause-peers g c =
    let jobs = c.in_ok-jobs.jobs.items in
    let played = c.in_ok-played.played.items in
    let begins : map (λ job. job.entry) jobs ≡ first_entries g.B.Room.ether g.B.Room.players = c.in_ok-jobs.ensures.entries ∙ c.requires.entries in
    let as_many : length played ≡ length jobs = search rules in
    let also : map Some c.in-Some.peers.items ≡ map (λ one. one.peer) played = search rules in
    length_peers g.B.Room.ether g.B.Room.players (λ job. job.entry) jobs (λ one. one.peer) played c.in-Some.peers.items begins as_many also
