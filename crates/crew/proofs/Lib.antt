mod Turns
mod Gathering
mod Counting
mod Marks
mod Ending
mod Drawing
mod Hiring
