use Rattle.dt_tests_crowd.proofs.scenes.run.Given as goal

-- the hub that was just made
abbrev pub ghosts-staged-J-Site : goal.ghosts-staged-J-Site
ghosts-staged-J-Site g a = record { book = a.parts.book }

abbrev pub ghosts-staged-J-Traced : goal.ghosts-staged-J-Traced
ghosts-staged-J-Traced g a = record { contents = a.parts.contents }

abbrev pub ghosts-staged-J-HubSite : goal.ghosts-staged-J-HubSite
ghosts-staged-J-HubSite g a = record { word = a.parts.word }
