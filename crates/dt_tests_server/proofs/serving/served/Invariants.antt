use Rattle.dt_tests_server.proofs.serving.served.Given as goal

-- the hub that was just made
abbrev pub ghosts-on_hub-J-Site : goal.ghosts-on_hub-J-Site
ghosts-on_hub-J-Site g a = record { book = a.parts.book }

abbrev pub ghosts-on_hub-J-Traced : goal.ghosts-on_hub-J-Traced
ghosts-on_hub-J-Traced g a = record { contents = a.parts.contents }

abbrev pub ghosts-on_hub-J-HubSite : goal.ghosts-on_hub-J-HubSite
ghosts-on_hub-J-HubSite g a = record { word = a.parts.word }
