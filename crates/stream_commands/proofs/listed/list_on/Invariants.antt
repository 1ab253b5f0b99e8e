use Rattle.listings.specs.Filters.{keeps_frame}
use Rattle.stream_commands.proofs.listed.list_on.Given as goal

-- the records that the filter keeps are kept
abbrev pub ghosts-list_only : goal.ghosts-list_only
ghosts-list_only g a = record { keeps = keeps_frame a.filter.scid a.filter.vcid }
